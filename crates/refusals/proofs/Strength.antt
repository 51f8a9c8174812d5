-- Document 01, "Strength of the contracts", over any call: a contract that equates a call's outcome (its answer and the final contents of each lent slice)
-- with a meaning admits one outcome only, and shuts out every program that is wrong at some input. Assumes nothing.
use mathlib.Core.Path.{◌≡◌, sym, ap, ◌∙◌}
use Prim.Native.Nat.{ℕ}
use Rattle.refusals.specs.Outcome.{Outcome, done, refused, Call}
use Rattle.refusals.proofs.Cases.{never_both}

module _ {Input Given : Type 0} (meaning : Input → Given) where
  -- a program that meets the contract on every input
  abbrev pub Meets : (Input → Given) → Type 0
  Meets program = (x : Input) → program x ≡ meaning x

  abbrev pub OneOutcome : Type 0
  OneOutcome = (p q : Input → Given) → Meets p → Meets q → (x : Input) → p x ≡ q x

  pub one_outcome : OneOutcome
  one_outcome p q first second x = first x ∙ sym (second x)

  -- no program that does what `wrong` does meets the contract
  abbrev pub ShutsOut : (Input → Given) → Type 0
  ShutsOut wrong = (p : Input → Given) → Meets p → ((x : Input) → p x ≡ wrong x) → ⊥

  pub shut_out : (wrong : Input → Given) (x : Input) → (meaning x ≡ wrong x → ⊥) → ShutsOut wrong
  shut_out wrong x differs p meets does = differs (sym (meets x) ∙ does x)

  -- no program that always gives the same meets a contract with two different outcomes
  pub not_constant : (x y : Input) → (meaning x ≡ meaning y → ⊥) → (always : Given) → ShutsOut (λ _. always)
  not_constant x y differ always p meets does = differ (sym (meets x) ∙ does x ∙ sym (does y) ∙ meets y)

-- ---- a call that answers and leaves its slices, which held `was`: shown at one accepted input at which they change

-- an outcome is not both
pub done_refused : {A : Type 0} {a : A} {number : ℕ} → done a ≡ refused number → ⊥
done_refused {a = a} {number = number} d = never_both a number d

-- one outcome; no program that always refuses, whatever it leaves; and none that leaves its slices as they were, whatever it answers
abbrev pub BothShutOut : {Input A S : Type 0} → (Input → Call A S) → (Input → S) → Type 0
BothShutOut {Input} {A} {S} meaning was =
    OneOutcome meaning
    × (((number : Input → ℕ) (left : Input → S) → ShutsOut meaning (λ x. record { answer = refused (number x); left = left x }))
    × ((answer : Input → Outcome A) → ShutsOut meaning (λ x. record { answer = answer x; left = was x })))

pub both : {Input A S : Type 0} (meaning : Input → Call A S) (was : Input → S) (x : Input) {a : A} {made : S}
    → meaning x ≡ record { answer = done a; left = made }
    → (made ≡ was x → ⊥) → BothShutOut meaning was
both {Input} {A} {S} meaning was x {a} {made} accepted changed = (one_outcome meaning, (not_refusing, not_idle))
  where
    not_refusing : (number : Input → ℕ) (left : Input → S) → ShutsOut meaning (λ y. record { answer = refused (number y); left = left y })
    not_refusing number left =
        shut_out meaning (λ y. record { answer = refused (number y); left = left y }) x
        (λ e. done_refused (sym (ap (λ (o : Call A S). o.answer) accepted) ∙ ap (λ (o : Call A S). o.answer) e))

    not_idle : (answer : Input → Outcome A) → ShutsOut meaning (λ y. record { answer = answer y; left = was y })
    not_idle answer =
        shut_out meaning (λ y. record { answer = answer y; left = was y }) x
        (λ e. changed (sym (ap (λ (o : Call A S). o.left) accepted) ∙ ap (λ (o : Call A S). o.left) e))

-- ---- any other call: one outcome, no program that always gives the same, and no `Other` wrong one

abbrev pub Strong : {Input Given : Type 0} → (Input → Given) → Type 0 → Type 0
Strong {Input} {Given} meaning Other = OneOutcome meaning × (((always : Given) → ShutsOut meaning (λ _. always)) × Other)

-- two inputs with different outcomes
pub strong : {Input Given Other : Type 0} (meaning : Input → Given) (x y : Input) → (meaning x ≡ meaning y → ⊥) → Other → Strong meaning Other
strong meaning x y differ other = (one_outcome meaning, (not_constant meaning x y differ, other))

abbrev pub TwoShutOut : {Input Given : Type 0} → (Input → Given) → (Input → Given) → Type 0
TwoShutOut meaning wrong = Strong meaning (ShutsOut meaning wrong)

-- wrong at x, and two inputs with different outcomes
pub two : {Input Given : Type 0} (meaning wrong : Input → Given) (x y z : Input) → (meaning x ≡ wrong x → ⊥) → (meaning y ≡ meaning z → ⊥)
    → TwoShutOut meaning wrong
two meaning wrong x y z wrong-there differ = strong meaning y z differ (shut_out meaning wrong x wrong-there)

-- ---- a call whose contract is a relation between its input and its outcome

module _ {Input Given : Type 0} (allows : Input → Given → Type 0) where
  -- a program that meets the contract on every input
  abbrev pub Keeps : (Input → Given) → Type 0
  Keeps program = (x : Input) → allows x (program x)

  -- one outcome; no program that always gives the same; and no `wrong` one
  abbrev pub StrongBy : Type 0 → Type 0
  StrongBy Other = ((p q : Input → Given) → Keeps p → Keeps q → (x : Input) → p x ≡ q x) × (((always : Given) → Keeps (λ _. always) → ⊥) × Other)

  -- at two inputs it allows different outcomes
  pub strong_by : {Other : Type 0} → ((x : Input) (o q : Given) → allows x o → allows x q → o ≡ q) → (x y : Input) (o q : Given) → allows x o → allows y q
      → (o ≡ q → ⊥) → Other → StrongBy Other
  strong_by one x y o q first second differ other = (
    (λ p r keeps holds z. one z (p z) (r z) (keeps z) (holds z)),
    (
      (λ always keeps. differ
          (one x o always first (keeps x) ∙ one y always q (keeps y) second)),
      other,
    ),
  )
