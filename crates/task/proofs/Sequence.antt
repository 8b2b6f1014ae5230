-- The rules one after the other.
use Rattle.std.proofs.Common.{◌≡◌, ℕ, zero, suc, ◌<◌, ◌⊎◌, List, Option, Some, None, sym, refl, ap, ◌∙◌, subst, inl, inr, arith}
use Rattle.std.proofs.lemmas.Bool.{cases_eq}
use Rattle.table.specs.declared.records.Arc.{Arc}
use Rattle.table.specs.declared.records.Node.{Node}
use Rattle.sets.specs.Tests.{Tried}
use Rattle.task.specs.declared.rules.Broken.{Broken}
use Rattle.task.specs.declared.rules.Rule.{Rule}
use Rattle.task.specs.declared.rules.Rule.TheVariants.{HomesAreOpenings, MatesPairUp, BranchesCountUp, ArcsAreLawful, OneFirstOneLast, BlocksAreWired}
use Rattle.task.specs.Rules.{rule_number, BrokenAt, Holds, HoldsAt, places}
use Rattle.task.specs.Shape.{AllHomesAreOpenings, AllMatesPairUp, AllBranchesCountUp, AllArcsAreLawful, AllHaveOneFirstOneLast}

abbrev numbered : ℕ → Rule
numbered zero = HomesAreOpenings
numbered (suc zero) = HomesAreOpenings
numbered (suc (suc zero)) = MatesPairUp
numbered (suc (suc (suc zero))) = BranchesCountUp
numbered (suc (suc (suc (suc zero)))) = ArcsAreLawful
numbered (suc (suc (suc (suc (suc zero))))) = OneFirstOneLast
numbered (suc (suc (suc (suc (suc (suc n)))))) = BlocksAreWired

numbered_back : (r : Rule) → numbered (rule_number r) ≡ r
numbered_back HomesAreOpenings = refl
numbered_back MatesPairUp = refl
numbered_back BranchesCountUp = refl
numbered_back ArcsAreLawful = refl
numbered_back OneFirstOneLast = refl
numbered_back BlocksAreWired = refl

pub same_rule : (r q : Rule) → rule_number r ≡ rule_number q → r ≡ q
same_rule r q e = sym (numbered_back r) ∙ ap numbered e ∙ numbered_back q

one_or_more : (r : Rule) → 0 < rule_number r
one_or_more HomesAreOpenings = omega arith
one_or_more MatesPairUp = omega arith
one_or_more BranchesCountUp = omega arith
one_or_more ArcsAreLawful = omega arith
one_or_more OneFirstOneLast = omega arith
one_or_more BlocksAreWired = omega arith

module _ (ns : List Node) (arcs : List Arc) where
  -- the rules with numbers below n hold
  abbrev pub HoldBelow : ℕ → Type 0
  HoldBelow n = (r : Rule) → rule_number r < n → Holds ns arcs r

  pub none_below : HoldBelow 1
  none_below r l = absurd (omega (arith, one_or_more r))

  pub one_more : (rule : Rule) → HoldBelow (rule_number rule) → Holds ns arcs rule → HoldBelow (suc (rule_number rule))
  one_more rule before here r l = go (cases_eq (rule_number r) (rule_number rule))
    where
      go : (rule_number r ≡ rule_number rule) ⊎ (rule_number r ≡ rule_number rule → ⊥) → Holds ns arcs r
      go (inl e) = subst (λ (x : Rule). Holds ns arcs x) (same_rule rule r (sym e)) here
      go (inr d) = before r (grind arith)

  -- how a rule is kept, or broken first, by the first place at which it is broken
  pub kept : (rule : Rule) (first : Option ℕ) → Tried (HoldsAt ns arcs rule) (places ns arcs rule) first → first ≡ None → Holds ns arcs rule
  kept rule first tried e = subst (Tried (HoldsAt ns arcs rule) (places ns arcs rule)) e tried

  pub broken_first : (rule : Rule) (first : Option ℕ) (b : Broken) → Tried (HoldsAt ns arcs rule) (places ns arcs rule) first
      → (first ≡ Some b.at) × (b.rule ≡ rule) → HoldBelow (rule_number rule) → BrokenAt ns arcs b.rule b.at
  broken_first rule first b tried (e, same) before =
      subst (λ (r : Rule). BrokenAt ns arcs r b.at) (sym same)
      (record { earlier = before; here = subst (Tried (HoldsAt ns arcs rule) (places ns arcs rule)) e tried })

  module _ (homes : AllHomesAreOpenings ns) where
    pub after_homes : HoldBelow 2
    after_homes = one_more HomesAreOpenings none_below homes

    module _ (mates : AllMatesPairUp ns) where
      pub after_mates : HoldBelow 3
      after_mates = one_more MatesPairUp after_homes mates

      module _ (branches : AllBranchesCountUp ns) where
        pub after_branches : HoldBelow 4
        after_branches = one_more BranchesCountUp after_mates branches

        module _ (lawful : AllArcsAreLawful ns arcs) where
          pub after_arcs : HoldBelow 5
          after_arcs = one_more ArcsAreLawful after_branches lawful

          pub after_ends : AllHaveOneFirstOneLast ns arcs → HoldBelow 6
          after_ends ends = one_more OneFirstOneLast after_arcs ends
