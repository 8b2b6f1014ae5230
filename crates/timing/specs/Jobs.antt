-- What the timing argument asks of the jobs of a task, whatever their nodes compute. Assumes nothing.
use Rattle.std.specs.Prelude.{◌≡◌, ℕ, ◌+◌, ◌-◌, ◌*◌, ◌≤◌, Bool, false, ◌⊎◌, List, length, nat_eq}
use Rattle.std.specs.List.{AllByRecursion}
use Rattle.timing.specs.Counts.{count_if}

-- a node of a job has a core for one tick, with the outcome of that tick
pub record Turn (O : Type 0) : Type 0 where
  pub node : ℕ
  pub outcome : O

-- how many of the turns the node v has
abbrev pub turns_of : {O : Type 0} → ℕ → List (Turn O) → ℕ
turns_of v ts = count_if (λ t. nat_eq v t.node) ts

-- The jobs of a task: their states, and what can be said of a state.
pub record Jobs (O : Type 0) : Type 1 where
  pub State : Type 0
  -- at the release
  pub fresh : State
  -- after a tick with these turns
  pub advance : State → List (Turn O) → State
  pub ended : State → Bool
  -- what holds of every state that a job can reach
  pub Sound : State → Type 0
  -- the node can have a turn
  pub Ready : State → ℕ → Type 0
  -- the turn's outcome is one that its node can have now
  pub Allows : State → Turn O → Type 0
  -- the first node has ended, and leads to the second
  pub Leads : State → ℕ → ℕ → Type 0
  -- `Chain j w c`: some path of nodes that ends in w has run c ticks
  pub Chain : State → ℕ → ℕ → Type 0
  -- the core-ticks that the job has used
  pub own : State → ℕ

-- the job may have the turn: its node is ready, and its outcome is allowed there
abbrev pub MayHave : {O : Type 0} (J : Jobs O) → J.State → Turn O → Type 0
MayHave J j t = J.Ready j t.node × J.Allows j t

-- the turns of one tick are fair: a node has one at most, and each is one that the job may have
pub record Fair {O : Type 0} (J : Jobs O) (j : J.State) (ts : List (Turn O)) : Type 0 where
  pub once : (v : ℕ) → turns_of v ts ≤ 1
  pub allowed : AllByRecursion (MayHave J j) ts

-- the job's state is sound, and has a tick with these turns
abbrev pub Ticks : {O : Type 0} (J : Jobs O) → J.State → List (Turn O) → Type 0
Ticks J j ts = J.Sound j × Fair J j ts

-- The laws of jobs on m cores, where `Has j ts` says that the state j has a tick with the turns ts: W bounds the core-ticks that a job uses,
-- and the weight Z bounds, while a node is ready, m - 1 times a chain to it with the core-ticks used.
pub record LawsIn {O : Type 0} (J : Jobs O) (Has : J.State → List (Turn O) → Type 0) (m W Z : ℕ) : Type 0 where
  pub fresh_sound : J.Sound J.fresh
  pub fresh_own : J.own J.fresh ≡ 0
  pub fresh_chain : (w : ℕ) → J.Ready J.fresh w → J.Chain J.fresh w 0
  pub stays_sound : (j : J.State) (ts : List (Turn O)) → Has j ts → J.Sound (J.advance j ts)
  pub own_grows : (j : J.State) (ts : List (Turn O)) → Has j ts → J.own (J.advance j ts) ≡ J.own j + length ts
  pub own_in_work : (j : J.State) → J.Sound j → J.own j ≤ W
  -- progress: an open job has a ready node
  pub progress : (j : J.State) → J.Sound j → J.ended j ≡ false → (w : ℕ) × J.Ready j w
  -- step: a node that is ready after a tick was ready before it, or a node that ran in the tick and has ended leads to it
  pub step : (j : J.State) (ts : List (Turn O)) → Has j ts → (w : ℕ) → J.Ready (J.advance j ts) w
      → J.Ready j w ⊎ ((v : ℕ) × (1 ≤ turns_of v ts) × J.Leads (J.advance j ts) v w)
  -- a chain to a node that stays ready grows by the node's turn
  pub chain_stays : (j : J.State) (ts : List (Turn O)) → Has j ts → (w c : ℕ) → J.Ready j w → J.Ready (J.advance j ts) w
      → J.Chain j w c → J.Chain (J.advance j ts) w (c + turns_of w ts)
  -- a chain to a node that ran goes on to a node that it leads to
  pub chain_leads : (j : J.State) (ts : List (Turn O)) → Has j ts → (v w c : ℕ) → J.Ready j v → 1 ≤ turns_of v ts
      → J.Leads (J.advance j ts) v w → J.Ready (J.advance j ts) w → J.Chain j v c → J.Chain (J.advance j ts) w (c + 1)
  -- close: a ready node has a tick to run yet, on each chain and in all
  pub close : (j : J.State) → J.Sound j → (w c : ℕ) → J.Ready j w → J.Chain j w c → (m - 1) * (c + 1) + J.own j + 1 ≤ Z
  -- the work, and a chain of one tick
  pub work_in_weight : W + (m - 1) ≤ Z

-- the laws in fair ticks
abbrev pub JobLaws : {O : Type 0} → Jobs O → (m W Z : ℕ) → Type 0
JobLaws J m W Z = LawsIn J (Ticks J) m W Z
