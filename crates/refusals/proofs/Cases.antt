-- Laws of outcomes read backwards: which numbers a refusal has, tests behind tests, and where an outcome that was tested or handed on comes from. By the
-- cases of the outcome. Assumes nothing.
use mathlib.Core.Path.{◌≡◌, refl, sym, ap}
use mathlib.Core.Bool.{Bool, true, false}
use mathlib.Core.List.{List, [], ◌∷◌, ◌++◌}
use Prim.Native.Nat.{ℕ, ◌≤◌}
use native.Mathlib.Omega.{arith}
use Rattle.numbers.proofs.Choice.{cond_cases}
use Rattle.std.proofs.Common.{Result, Ok, Err}
use Rattle.refusals.specs.declared.Refusal.{Refusal}
use Rattle.refusals.specs.declared.Refusal.TheVariants.{
  Size,
  NotSquare,
  Length,
  SwapList,
  NotFinite,
  Singular,
  Overflow,
  NotAPanelFile,
  DeadColumns,
  SeasonFull,
}
use Rattle.refusals.specs.Outcome.{Outcome, done, refused, outcome, number, first_holding, tested, and_then}
use Rattle.refusals.proofs.Outcomes.{Numbered, never_0, same_kind, tested_none, tested_some, tested_cases}

-- ---- the first of the tests

-- each test's number is so
abbrev pub Each : (ℕ → Type 0) → List (ℕ × Bool) → Type 0
Each P [] = Unit {0}
Each P (t ∷ ts) = P t.0 × Each P ts

-- the number is 0 or a test's
pub first_among : (P : ℕ → Type 0) (ts : List (ℕ × Bool)) → P 0 → Each P ts → P (first_holding ts)
unfolding first_holding
first_among P [] none each = none
first_among P (t ∷ ts) none each = cond_cases P t.1 (λ _. each.0) (λ _. first_among P ts none each.1)

-- tests behind others count where none of those holds
pub first_behind : (ts us : List (ℕ × Bool)) → Numbered ts → first_holding (ts ++ us) ≡ tested (first_holding ts) (λ k. k) (first_holding us)
unfolding first_holding
first_behind [] us n = sym (tested_none 0 (λ k. k) (first_holding us) refl)
first_behind ((k, true) ∷ ts) us n = sym (tested_some k (λ j. j) (first_holding us) n.0)
first_behind ((k, false) ∷ ts) us n = first_behind ts us n.1

-- tests made in two goes: the first go refuses, or the second decides
pub refused_before : (ts us : List (ℕ × Bool)) (r : Refusal) → number r ≡ first_holding ts → number r ≡ first_holding (ts ++ us)
unfolding first_holding
refused_before [] us r e = absurd (never_0 r e)
refused_before ((k, true) ∷ ts) us r e = e
refused_before ((k, false) ∷ ts) us r e = refused_before ts us r e

pub passed_before : (ts us : List (ℕ × Bool)) → Numbered ts → 0 ≡ first_holding ts → first_holding us ≡ first_holding (ts ++ us)
unfolding first_holding
passed_before [] us n e = refl
passed_before ((k, true) ∷ ts) us n e = absurd (n.0 (sym e))
passed_before ((k, false) ∷ ts) us n e = passed_before ts us n.1 e

-- ---- the kinds count from 1 to 10
pub at_most_ten : (refusal : Refusal) → number refusal ≤ 10
at_most_ten Size = omega arith
at_most_ten NotSquare = omega arith
at_most_ten Length = omega arith
at_most_ten SwapList = omega arith
at_most_ten NotFinite = omega arith
at_most_ten Singular = omega arith
at_most_ten Overflow = omega arith
at_most_ten NotAPanelFile = omega arith
at_most_ten DeadColumns = omega arith
at_most_ten SeasonFull = omega arith

-- ---- done, or refused, is one of the two and holds one value
module _ {A : Type 0} where
  pub done_same : (a b : A) → done a ≡ done b → a ≡ b
  done_same a b e = cc

  pub refused_same : (j k : ℕ) → ◌≡◌ {A = Outcome A} (refused j) (refused k) → j ≡ k
  refused_same j k e = cc

  pub never_both : {Q : Type 0} (a : A) (k : ℕ) → done a ≡ refused k → Q
  never_both a k e = absurd (let z : ◌≡◌ {A = ℕ} 0 1 = cc in omega arith)

-- ---- an outcome is that of one answer
pub one_answer : {A : Type 0} (a b : Result A Refusal) → outcome a ≡ outcome b → a ≡ b
one_answer (Ok x) (Ok y) e = ap Ok (done_same x y e)
one_answer (Ok x) (Err r) e = never_both x (number r) e
one_answer (Err r) (Ok y) e = never_both y (number r) (sym e)
one_answer {A = A} (Err r) (Err s) e = ap Err (same_kind r s (refused_same {A = A} (number r) (number s) e))

-- ---- where a tested outcome comes from
module _ {A : Type 0} (number : ℕ) (o : Outcome A) where
  pub tested_done : (a : A) → tested number refused o ≡ done a → (number ≡ 0) × (o ≡ done a)
  tested_done a =
      tested_cases number refused o (λ x. x ≡ done a → (number ≡ 0) × (o ≡ done a)) (λ z e. (z, e)) (λ z e. never_both a number (sym e))

  pub tested_refused : {Q : Type 0} (k : ℕ) → tested number refused o ≡ refused k → (number ≡ 0 → o ≡ refused k → Q)
      → ((number ≡ 0 → ⊥) → number ≡ k → Q) → Q
  tested_refused {Q} k e made tests =
      tested_cases number refused o (λ x. x ≡ refused k → Q) (λ z d. made z d) (λ z d. tests z (refused_same number k d)) e

-- ---- where an outcome that was handed on comes from
pub then_done : {A B Q : Type 0} (o : Outcome A) (f : A → Outcome B) (b : B) → and_then o f ≡ done b → ((a : A) → o ≡ done a → f a ≡ done b → Q) → Q
then_done (done a) f b e use-it = use-it a refl e
then_done (refused k) f b e use-it = never_both b k (sym e)

pub then_refused : {A B Q : Type 0} (o : Outcome A) (f : A → Outcome B) (k : ℕ) → and_then o f ≡ refused k → (o ≡ refused k → Q)
    → ((a : A) → o ≡ done a → f a ≡ refused k → Q) → Q
then_refused (done a) f k e early late = late a refl e
then_refused {A = A} (refused j) f k e early late = early (same (refused_same j k e))
  where
    same : j ≡ k → ◌≡◌ {A = Outcome A} (refused j) (refused k)
    same d = rw d
