-- Records whose encodings begin alike are equal.
use Rattle.std.proofs.Common.{◌≡◌, ℕ, ◌*◌, ◌/◌, ◌%◌, ◌<◌, ◌≤◌, List, ◌++◌, get_or, drop, refl, ap, arith}
use Rattle.table.specs.declared.records.Timing.{Timing}
use Rattle.table.specs.declared.records.Node.{Node}
use Rattle.table.specs.declared.records.Arc.{Arc}
use Rattle.table.specs.declared.records.Role.{Role}
use Rattle.table.specs.declared.records.Role.TheVariants.{Plain, Opening, Closing}
use Rattle.table.specs.declared.records.Region.{Region}
use Rattle.table.specs.declared.records.Region.TheVariants.{Top, Branch}
use Rattle.table.specs.declared.reader.Seen.{Seen}
use Rattle.table.specs.Format.{Record, task, node, arc, encode, role_byte, mate_byte, home_byte, branch_byte}
use Rattle.table.specs.Range.{InRange, RegionInRange}
use Rattle.table.specs.Run.{Next}
use Rattle.table.proofs.Bytes.{number_back}

-- what a record needs so that its bytes tell it again
abbrev HomeTold : Region → Type 0
HomeTold Top = Unit {0}
HomeTold (Branch home branch) = home < 255

abbrev pub Written : Record → Type 0
Written (task t) = (t.period < 4294967296) × (t.deadline < 4294967296)
Written (node n) = HomeTold n.region × (n.time < 4294967296)
Written (arc a) = Unit {0}

home_written : (own : ℕ) (p : Region) → own ≤ 64 → RegionInRange own p → HomeTold p
home_written own Top few h = tt
home_written own (Branch home branch) few h = omega (arith, h.0)

pub range_written : (m : ℕ) (r : Record) → m ≤ 64 → InRange m r → Written r
range_written m (task t) few h = (omega (arith, h.short_period), omega (arith, h.short_period, h.deadline_in_period))
range_written m (node n) few h = (home_written m n.region few h.region, omega (arith, h.short_time))
range_written m (arc a) few h = tt

pub next_written : (s : Seen) (r : Record) → Next s r → Written r
next_written s (task t) n = range_written 0 (task t) (omega arith) n.in_range
next_written s (node m) n = range_written s.nodes (node m) (omega (arith, n.room)) n.in_range
next_written s (arc a) n = tt

same_number : (m n : ℕ) → m < 4294967296 → n < 4294967296 → m % 256 ≡ n % 256 → m / 256 % 256 ≡ n / 256 % 256
    → m / 65536 % 256 ≡ n / 65536 % 256 → m / 16777216 % 256 ≡ n / 16777216 % 256 → m ≡ n
same_number m n hm hn a b c d =
    let e = number_back m hm in
    let f = number_back n hn in
    let ea : 256 * (m / 256 % 256) ≡ 256 * (n / 256 % 256) = ap (λ (j : ℕ). 256 * j) b in
    let eb : 65536 * (m / 65536 % 256) ≡ 65536 * (n / 65536 % 256) = ap (λ (j : ℕ). 65536 * j) c in
    let ec : 16777216 * (m / 16777216 % 256) ≡ 16777216 * (n / 16777216 % 256) = ap (λ (j : ℕ). 16777216 * j) d in
    cc

same_role : (p q : Role) → role_byte p ≡ role_byte q → mate_byte p ≡ mate_byte q → p ≡ q
same_role Plain Plain e f = refl
same_role Plain Opening e f = absurd (omega arith)
same_role Plain (Closing b) e f = absurd (omega arith)
same_role Opening Plain e f = absurd (omega arith)
same_role Opening Opening e f = refl
same_role Opening (Closing b) e f = absurd (omega arith)
same_role (Closing a) Plain e f = absurd (omega arith)
same_role (Closing a) Opening e f = absurd (omega arith)
same_role (Closing a) (Closing b) e f = ap Closing f

same_region : (p q : Region) → HomeTold p → HomeTold q → home_byte p ≡ home_byte q → branch_byte p ≡ branch_byte q → p ≡ q
same_region Top Top hp hq e f = refl
same_region Top (Branch h b) hp hq e f = absurd (omega arith)
same_region (Branch h b) Top hp hq e f = absurd (omega arith)
same_region (Branch h b) (Branch i c) hp hq e f = cc

at_place : (i : ℕ) (x y : List ℕ) → x ≡ y → get_or x i 0 ≡ get_or y i 0
at_place i x y e = ap (λ (l : List ℕ). get_or l i 0) e

same_timing : (t q : Timing) → t.period ≡ q.period → t.deadline ≡ q.deadline → t ≡ q
same_timing t q e f =
    let a : ◌≡◌ {A = Timing} record { period = t.period; deadline = t.deadline } record { period = q.period; deadline = q.deadline } = cc in a

same_node : (t q : Node) → t.role ≡ q.role → t.region ≡ q.region → t.time ≡ q.time → t ≡ q
same_node t q e f g =
    let a : ◌≡◌ {A = Node} record { role = t.role; region = t.region; time = t.time } record { role = q.role; region = q.region; time = q.time } = cc in a

same_arc : (t q : Arc) → t.from ≡ q.from → t.to ≡ q.to → t ≡ q
same_arc t q e f =
    let a : ◌≡◌ {A = Arc} record { from = t.from; to = t.to } record { from = q.from; to = q.to } = cc in a

pub encodes_one : (r q : Record) (u v : List ℕ) → Written r → Written q → encode r ++ u ≡ encode q ++ v → (r ≡ q) × (u ≡ v)
encodes_one (task t) (task q) u v hr hq e =
    let x = encode (task t) ++ u in
    let y = encode (task q) ++ v in (
      ap task (same_timing t q
          (same_number t.period q.period hr.0 hq.0 (at_place 4 x y e) (at_place 5 x y e) (at_place 6 x y e) (at_place 7 x y e))
          (same_number t.deadline q.deadline hr.1 hq.1 (at_place 8 x y e) (at_place 9 x y e) (at_place 10 x y e) (at_place 11 x y e))),
      ap (λ (l : List ℕ). drop 12 l) e,
    )
encodes_one (task t) (node q) u v hr hq e = absurd (let z : ◌≡◌ {A = ℕ} 1 2 = ap (λ (l : List ℕ). get_or l 2 0) e in omega arith)
encodes_one (task t) (arc q) u v hr hq e = absurd (let z : ◌≡◌ {A = ℕ} 1 3 = ap (λ (l : List ℕ). get_or l 2 0) e in omega arith)
encodes_one (node t) (task q) u v hr hq e = absurd (let z : ◌≡◌ {A = ℕ} 2 1 = ap (λ (l : List ℕ). get_or l 2 0) e in omega arith)
encodes_one (node t) (node q) u v hr hq e =
    let x = encode (node t) ++ u in
    let y = encode (node q) ++ v in (
      ap node (same_node t q
          (same_role t.role q.role (at_place 4 x y e) (at_place 7 x y e))
          (same_region t.region q.region hr.0 hq.0 (at_place 5 x y e) (at_place 6 x y e))
          (same_number t.time q.time hr.1 hq.1 (at_place 8 x y e) (at_place 9 x y e) (at_place 10 x y e) (at_place 11 x y e))),
      ap (λ (l : List ℕ). drop 12 l) e,
    )
encodes_one (node t) (arc q) u v hr hq e = absurd (let z : ◌≡◌ {A = ℕ} 2 3 = ap (λ (l : List ℕ). get_or l 2 0) e in omega arith)
encodes_one (arc t) (task q) u v hr hq e = absurd (let z : ◌≡◌ {A = ℕ} 3 1 = ap (λ (l : List ℕ). get_or l 2 0) e in omega arith)
encodes_one (arc t) (node q) u v hr hq e = absurd (let z : ◌≡◌ {A = ℕ} 3 2 = ap (λ (l : List ℕ). get_or l 2 0) e in omega arith)
encodes_one (arc t) (arc q) u v hr hq e =
    let x = encode (arc t) ++ u in
    let y = encode (arc q) ++ v in
    (ap arc (same_arc t q (at_place 4 x y e) (at_place 5 x y e)), ap (λ (l : List ℕ). drop 6 l) e)
