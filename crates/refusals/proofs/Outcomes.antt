-- Laws of outcomes, for any call: the tests in their order, both ways, and a call's two ends, refused or made. Assumes nothing.
use mathlib.Core.Path.{◌≡◌, refl, sym, ap, ◌∙◌}
use mathlib.Core.Logic.{◌↔◌}
use mathlib.Core.Bool.{Bool, true, false, cond}
use mathlib.Core.List.{List, [], ◌∷◌}
use Prim.Native.Nat.{ℕ}
use native.Mathlib.Omega.{arith}
use borrow.Author.Tests.{eqb-true, eqb-false, eq-eqb, ne_eqb}
use lib.Dec.{eqb}
use Rattle.numbers.specs.Column.{Column}
use Rattle.finite.specs.Finite.{all_finite}
use Rattle.numbers.proofs.Choice.{test_cases, cond_cases, cond_map}
use Rattle.std.proofs.Common.{Result, Err}
use Rattle.std.specs.Result.{IsErrAnd}
use Rattle.std.proofs.lemmas.Result.{err_from_is_err_and}
use Rattle.refusals.specs.declared.Refusal.{Refusal}
use Rattle.refusals.specs.declared.Refusal.TheVariants.{Size, NotSquare, Length, SwapList, NotFinite, Singular, Overflow}
use Rattle.refusals.specs.declared.Refusal.TheVariants.{NotAPanelFile, DeadColumns, SeasonFull}
use Rattle.refusals.specs.Outcome.{Outcome, done, refused, outcome, number, number_of, first_holding, tested, and_then, Call, leaving}
use Rattle.refusals.specs.Refusals.{seventh}

-- ---- the tests

-- no test holds; a test's number is never 0
abbrev pub NoneHolds : List (ℕ × Bool) → Type 0
NoneHolds [] = Unit {0}
NoneHolds (t ∷ ts) = (t.1 ≡ false) × NoneHolds ts

abbrev pub Numbered : List (ℕ × Bool) → Type 0
Numbered [] = Unit {0}
Numbered (t ∷ ts) = (t.0 ≡ 0 → ⊥) × Numbered ts

-- THEOREM. "The first that holds is given, and none is given otherwise": 0 exactly where no test holds.
pub none_first : (ts : List (ℕ × Bool)) → NoneHolds ts → first_holding ts ≡ 0
unfolding first_holding
none_first [] h = refl
none_first (t ∷ ts) h = rw h.0 (none_first ts h.1)

pub first_none : (ts : List (ℕ × Bool)) → Numbered ts → first_holding ts ≡ 0 → NoneHolds ts
unfolding first_holding
first_none [] n e = tt
first_none ((k, true) ∷ ts) n e = absurd (n.0 e)
first_none ((k, false) ∷ ts) n e = (refl, first_none ts n.1 e)

-- ---- refused, or made
module _ {X : Type 0} (number : ℕ) (refuse : ℕ → X) (made : X) where
  pub tested_none : number ≡ 0 → tested number refuse made ≡ made
  unfolding tested
  tested_none e = rw (eq-eqb number 0 e)

  pub tested_some : (number ≡ 0 → ⊥) → tested number refuse made ≡ refuse number
  unfolding tested
  tested_some h = rw (ne_eqb number 0 h)

  pub tested_cases : (P : X → Type 0) → (number ≡ 0 → P made) → ((number ≡ 0 → ⊥) → P (refuse number)) → P (tested number refuse made)
  unfolding tested
  tested_cases P all some = cond_cases P (eqb number 0) (λ t. all (eqb-true number 0 t)) (λ t. some (eqb-false number 0 t))

-- what is read off either end
pub tested_map : {X Y : Type 0} (f : X → Y) (number : ℕ) (refuse : ℕ → X) (made : X)
    → f (tested number refuse made) ≡ tested number (λ k. f (refuse k)) (f made)
unfolding tested
tested_map f number refuse made = sym (cond_map f (eqb number 0) made (refuse number))

-- calls in a row may be read as one call of the later two
pub then_then : {A B C : Type 0} (o : Outcome A) (f : A → Outcome B) (g : B → Outcome C) → and_then (and_then o f) g ≡ and_then o (λ a. and_then (f a) g)
then_then (done a) f g = refl
then_then (refused k) f g = refl

-- a call that gives no refusal has none by its tests
pub none_given : {A S : Type 0} (number : ℕ) (was : S) (made : Call A S) → number_of (tested number (leaving was) made).answer ≡ 0 → number ≡ 0
none_given number was made =
    tested_cases number (leaving was) made (λ o. number_of o.answer ≡ 0 → number ≡ 0) (λ e h. e) (λ n h. h)

-- ---- the kinds of refusals: none has the number 0, and no two have the same
pub never_0 : (refusal : Refusal) → number refusal ≡ 0 → ⊥
never_0 Size e = omega (arith, e)
never_0 NotSquare e = omega (arith, e)
never_0 Length e = omega (arith, e)
never_0 SwapList e = omega (arith, e)
never_0 NotFinite e = omega (arith, e)
never_0 Singular e = omega (arith, e)
never_0 Overflow e = omega (arith, e)
never_0 NotAPanelFile e = omega (arith, e)
never_0 DeadColumns e = omega (arith, e)
never_0 SeasonFull e = omega (arith, e)

-- the kind of each number
kind_of : ℕ → Refusal
kind_of k =
    cond (eqb k 1) Size
    (cond (eqb k 2) NotSquare
    (cond (eqb k 3) Length
    (cond (eqb k 4) SwapList
    (cond (eqb k 5) NotFinite
    (cond (eqb k 6) Singular (cond (eqb k 7) Overflow (cond (eqb k 8) NotAPanelFile (cond (eqb k 9) DeadColumns SeasonFull))))))))

kind_is : (r : Refusal) → kind_of (number r) ≡ r
unfolding kind_of
kind_is Size = refl
kind_is NotSquare = refl
kind_is Length = refl
kind_is SwapList = refl
kind_is NotFinite = refl
kind_is Singular = refl
kind_is Overflow = refl
kind_is NotAPanelFile = refl
kind_is DeadColumns = refl
kind_is SeasonFull = refl

pub same_kind : (r s : Refusal) → number r ≡ number s → r ≡ s
same_kind r s e = sym (kind_is r) ∙ ap kind_of e ∙ kind_is s

-- the kind that some calls tell apart
pub only_overflow : (refusal : Refusal) → number refusal ≡ 7 → refusal ≡ Overflow
only_overflow refusal e = same_kind refusal Overflow e

pub only_singular : (refusal : Refusal) → number refusal ≡ 6 → refusal ≡ Singular
only_singular Size e = absurd (omega (arith, e))
only_singular NotSquare e = absurd (omega (arith, e))
only_singular Length e = absurd (omega (arith, e))
only_singular SwapList e = absurd (omega (arith, e))
only_singular NotFinite e = absurd (omega (arith, e))
only_singular Singular e = refl
only_singular Overflow e = absurd (omega (arith, e))
only_singular NotAPanelFile e = absurd (omega (arith, e))
only_singular DeadColumns e = absurd (omega (arith, e))
only_singular SeasonFull e = absurd (omega (arith, e))

-- ---- a call whose promise is the answer and what its slices hold
abbrev pub Promise : {A S : Type 0} → Call A S → Result A Refusal → S → Type 0
Promise o r s = (outcome r ≡ o.answer) × (s ≡ o.left)

-- what a `?` hands on
pub handed_on : {A : Type 0} (r : Refusal) (answer : Result A Refusal) → IsErrAnd answer (λ e. e ≡ r) → answer ≡ Err r
handed_on r answer h = let p = err_from_is_err_and answer h in p.1 ∙ ap Err p.2

-- its tests refused, and that is answered
pub promise_refused : {A S : Type 0} (refusal : ℕ) (was : S) (made : Call A S) (r : Refusal) (answer : Result A Refusal) → number r ≡ refusal
    → IsErrAnd answer (λ e. e ≡ r) → Promise (tested refusal (leaving was) made) answer was
promise_refused refusal was made r answer e h =
    rw (handed_on r answer h, tested_some refusal (leaving was) made (λ z. never_0 r (e ∙ z))) (ap refused e, refl)

-- the work was done
pub promise_made : {A S : Type 0} (refusal : ℕ) (was : S) (made : Call A S) (r : Result A Refusal) (s : S) → 0 ≡ refusal
    → outcome r ≡ made.answer → s ≡ made.left → Promise (tested refusal (leaving was) made) r s
promise_made refusal was made r s none a b = rw (tested_none refusal (leaving was) made (sym none)) (a, b)

-- ---- refusal 7 is given exactly where some result is not finite; else the results stand
pub seventh_number : (made : Column) → number_of (seventh made).answer ≡ cond (all_finite made) 0 7
unfolding seventh
seventh_number made = sym (cond_map (λ (o : Call (Unit {0}) Column). number_of o.answer) (all_finite made) _ _)

pub seventh_refused : (made : Column) → ((seventh made).answer ≡ refused 7) ↔ (all_finite made ≡ false)
unfolding seventh
seventh_refused made = (
  test_cases {Q = (seventh made).answer ≡ refused 7 → all_finite made ≡ false} (all_finite made)
      (λ t e. absurd (let z : ◌≡◌ {A = ℕ} 0 1 = cc (rw t at e) in omega arith)) (λ t e. t),
  λ t. rw t,
)

pub seventh_stands : (made : Column) → number_of (seventh made).answer ≡ 0 → (seventh made).left ≡ made
unfolding seventh
seventh_stands made =
    cond_cases (λ (o : Call (Unit {0}) Column). number_of o.answer ≡ 0 → o.left ≡ made) (all_finite made) (λ t e. refl) (λ t e. absurd (omega (arith, e)))
