-- What appending a pair does on every input: document 01, "Sizes" and "Refusal numbers".
use Rattle.std.specs.Prelude.{not, cond, ◌&&◌, ◌||◌, List, [], ◌∷◌, ℕ, ◌+◌, leb, eqb, length, Result, Ok, Err}
use Rattle.refusals.specs.Outcome.{Outcome, done, outcome_or_old, first_holding, tested, and_then, Call, leaving}
use Rattle.refusals.specs.declared.Refused.{Refused}
use Rattle.refusals.specs.Refusals.{outside}
use Rattle.swap_list.specs.SwapList.{with_pair, good_list}

-- ---- appending the pair (i, j) to a list for dimension d

-- The list is tested as plain permuting of 64 rows does, but with at most d pairs; then the numbers; a full list takes no pair of different numbers.
unfoldable pub appending_refusal : List ℕ → ℕ → ℕ → ℕ → ℕ → ℕ
appending_refusal store pairs d i j =
    first_holding
    ((1, outside 1 d)
    ∷ (3, not (eqb (length store) 128))
    ∷ (4, not (good_list store pairs 64 d))
    ∷ (4, leb 64 i || leb 64 j)
    ∷ (4, not (eqb i j) && eqb pairs d)
    ∷ [])

-- a list as the caller holds it: how many pairs, and their store
pub record Listed : Type 0 where
  pub pairs : ℕ
  pub store : List ℕ

abbrev pub listed : ℕ → List ℕ → Listed
listed pairs store = record { pairs = pairs; store = store }

-- A pair of two different numbers is written behind the last. Else all is as it was, the count too.
unfoldable pub appending : List ℕ → ℕ → ℕ → ℕ → ℕ → Call (Unit {0}) Listed
appending store pairs d i j =
    tested (appending_refusal store pairs d i j) (leaving (listed pairs store))
    (record { answer = done tt; left = cond (eqb i j) (listed pairs store) (listed (pairs + 1) (with_pair pairs i j store)) })

-- what the answer stands for, and the count that it holds: the new one, or else the old one
abbrev pub appended : Result ℕ (Refused ℕ) → Outcome (Unit {0})
appended answer = and_then (outcome_or_old answer) (λ pairs. done tt)

abbrev pub count_of : Result ℕ (Refused ℕ) → ℕ
count_of (Ok pairs) = pairs
count_of (Err r) = r.old
