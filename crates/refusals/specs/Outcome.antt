-- Document 01, "Refusal numbers": what a call comes to. One type for all calls.
use Rattle.std.specs.Prelude.{Bool, cond, List, [], ◌∷◌, ℕ, eqb, Result, Ok, Err}
use Rattle.refusals.specs.declared.Refusal.{Refusal}
use Rattle.refusals.specs.declared.Refused.{Refused}
use Rattle.refusals.specs.declared.Refusal.TheVariants.{Size, NotSquare, Length, SwapList, NotFinite, Singular, Overflow}
use Rattle.refusals.specs.declared.Refusal.TheVariants.{NotAPanelFile, DeadColumns, SeasonFull}

-- done with what the call answers, or refused with a number
pub data Outcome (A : Type 0) : Type 0 where
  done : A → Outcome A
  refused : ℕ → Outcome A

-- the number of each kind of refusal: document 01's table; 9 is document 02's request 7, 10 its request 13
abbrev pub number : Refusal → ℕ
number Size = 1
number NotSquare = 2
number Length = 3
number SwapList = 4
number NotFinite = 5
number Singular = 6
number Overflow = 7
number NotAPanelFile = 8
number DeadColumns = 9
number SeasonFull = 10

-- what the answer of a call stands for
abbrev pub outcome : {A : Type 0} → Result A Refusal → Outcome A
outcome (Ok a) = done a
outcome (Err refusal) = refused (number refusal)

-- the same of a call that goes on from a value: refused, it answers that value too
abbrev pub outcome_or_old : {A T : Type 0} → Result A (Refused T) → Outcome A
outcome_or_old (Ok a) = done a
outcome_or_old (Err r) = refused (number r.refusal)

-- the refusal number, 0 for none
abbrev pub number_of : {A : Type 0} → Outcome A → ℕ
number_of (done a) = 0
number_of (refused number) = number

-- "Tested in this order; the first that holds is given, and none is given otherwise": numbers with their tests; 0 is none
unfoldable pub first_holding : List (ℕ × Bool) → ℕ
first_holding [] = 0
first_holding (t ∷ ts) = cond t.1 t.0 (first_holding ts)

-- tests as the code lists them: kinds of refusals in place of their numbers
abbrev pub numbered : List (Refusal × Bool) → List (ℕ × Bool)
numbered [] = []
numbered (t ∷ ts) = (number t.0, t.1) ∷ numbered ts

-- refused with the number that the tests gave, else what was made
unfoldable pub tested : {X : Type 0} → ℕ → (ℕ → X) → X → X
tested number refuse made = cond (eqb number 0) made (refuse number)

-- a call on what another call answered: a refusal is handed on
abbrev pub and_then : {A B : Type 0} → Outcome A → (A → Outcome B) → Outcome B
and_then (done a) next = next a
and_then (refused number) next = refused number

-- an outcome with what the lent slices then hold
pub record Call (A S : Type 0) : Type 0 where
  pub answer : Outcome A
  pub left : S

-- "leaves all as it was"
abbrev pub leaving : {A S : Type 0} → S → ℕ → Call A S
leaving was number = record { answer = refused number; left = was }
