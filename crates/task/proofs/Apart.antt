-- Answers, regions and roles: which differ, and what those share that are equal.
use Rattle.std.proofs.Common.{◌≡◌, ℕ, true, false, ◌≢◌, arith}
use Rattle.table.specs.declared.records.Region.TheVariants.{Top, Branch}
use Rattle.table.specs.declared.records.Role.TheVariants.{Plain, Opening, Closing}

pub false_not_true : {P : Type 0} → false ≡ true → P
false_not_true e = let z : ◌≡◌ {A = ℕ} 0 1 = cc in absurd (omega arith)

pub top_not_branch : (h b : ℕ) → Top ≢ Branch h b
top_not_branch h b e = let z : ◌≡◌ {A = ℕ} 0 1 = cc in omega arith

pub branch_not_top : (h b : ℕ) → Branch h b ≢ Top
branch_not_top h b e = let z : ◌≡◌ {A = ℕ} 0 1 = cc in omega arith

pub one_branch : (g a h b : ℕ) → g ≡ h → a ≡ b → Branch g a ≡ Branch h b
one_branch g a h b e f = cc

pub same_home : (g a h b : ℕ) → Branch g a ≡ Branch h b → g ≡ h
same_home g a h b e = cc

pub same_branch : (g a h b : ℕ) → Branch g a ≡ Branch h b → a ≡ b
same_branch g a h b e = cc

pub plain_not_opening : Plain ≢ Opening
plain_not_opening e = let z : ◌≡◌ {A = ℕ} 0 1 = cc in omega arith

pub plain_not_closing : (o : ℕ) → Plain ≢ Closing o
plain_not_closing o e = let z : ◌≡◌ {A = ℕ} 0 1 = cc in omega arith

pub opening_not_closing : (o : ℕ) → Opening ≢ Closing o
opening_not_closing o e = let z : ◌≡◌ {A = ℕ} 0 1 = cc in omega arith

pub closing_not_opening : (o : ℕ) → Closing o ≢ Opening
closing_not_opening o e = let z : ◌≡◌ {A = ℕ} 0 1 = cc in omega arith

pub one_closing : (m o : ℕ) → m ≡ o → Closing m ≡ Closing o
one_closing m o e = cc

pub same_mate : (m o : ℕ) → Closing m ≡ Closing o → m ≡ o
same_mate m o e = cc
