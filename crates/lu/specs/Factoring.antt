-- What factoring answers and leaves, on every input: document 01, "Sizes", "Refusal numbers" and "Elimination".
use Rattle.std.specs.Prelude.{Bool, not, cond, ◌&&◌, ◌||◌, List, [], ◌∷◌, ℕ, ◌*◌, eqb, length, Result, Ok, Err}
use Rattle.numbers.specs.Column.{Column, zeros}
use Rattle.finite.specs.Finite.{all_finite}
use Rattle.store.specs.Columns.{columns, flat, is_matrix}
use Rattle.refusals.specs.Outcome.{Outcome, done, refused, number, first_holding, tested, and_then, leaving}
use Rattle.refusals.specs.Refusals.{outside}
use Rattle.factors.specs.declared.Record.{Record}
use Rattle.factors.specs.Factors.{Factors, store_of, record_for, slices, Factoring}
use Rattle.elimination.specs.Elimination.{eliminate}
use Rattle.elimination.specs.TossUps.{toss_ups}
use Rattle.refusals.specs.declared.Refusal.{Refusal}
use Rattle.lu.specs.declared.Factored.{Factored}

-- the tests before the work: an m by n matrix a, the slice for the factors, and the swap store
abbrev pub factoring_tests : Column → ℕ → ℕ → Column → List ℕ → List (ℕ × Bool)
factoring_tests a m n out store =
    (1, outside 1 m || outside 0 n)
    ∷ (3, not (is_matrix a m n && is_matrix out m n && eqb (length store) 128))
    ∷ (5, not (all_finite a))
    ∷ []

-- the refusal, 0 for none
unfoldable pub factoring_refusal : Column → ℕ → ℕ → Column → List ℕ → ℕ
factoring_refusal a m n out store = first_holding (factoring_tests a m n out store)

-- accepted: the record, the factors and the swap store
abbrev pub accepted_as : ℕ → ℕ → Factors → Factoring
accepted_as m n f = record { answer = done (record_for m n f); left = slices (flat f.columns) (store_of f.swaps) }

-- refusal 7: "result slices +0.0; when factoring, also swap store zero, no pairs and no dead columns"
unfoldable pub settled : ℕ → ℕ → Factors → Factoring
settled m n f = cond (all_finite (flat f.columns)) (accepted_as m n f) (leaving (slices (zeros (n * m)) (store_of [])) 7)

-- the whole call
unfoldable pub factoring : Column → ℕ → ℕ → Column → List ℕ → Factoring
factoring a m n out store = tested (factoring_refusal a m n out store) (leaving (slices out store)) (settled m n (eliminate m (columns m n a)))

-- ---- the answer: the record, and the number of toss-ups with it (document 02, request 3)

-- what an answer that makes factors stands for
abbrev pub factored : Result Factored Refusal → Outcome (Record × ℕ)
factored (Ok f) = done (f.told, f.toss_ups)
factored (Err refusal) = refused (number refusal)

-- an outcome with its toss-ups
unfoldable pub with_toss_ups : ℕ → Outcome Record → Outcome (Record × ℕ)
with_toss_ups tossed o = and_then o (λ told. done (told, tossed))

unfoldable pub factoring_answer : Column → ℕ → ℕ → Column → List ℕ → Outcome (Record × ℕ)
factoring_answer a m n out store = with_toss_ups (toss_ups m (columns m n a)) (factoring a m n out store).answer

-- "Every refused factoring answers 0 pairs", and 0 dead columns; and "a refusal gives 0" toss-ups
unfoldable pub pairs_in : Outcome (Record × ℕ) → ℕ
pairs_in (done t) = t.0.pairs
pairs_in (refused number) = 0

unfoldable pub dead_columns_in : Outcome (Record × ℕ) → ℕ
dead_columns_in (done t) = t.0.dead
dead_columns_in (refused number) = 0

unfoldable pub tossed_in : {A : Type 0} → Outcome (A × ℕ) → ℕ
tossed_in (done t) = t.1
tossed_in (refused number) = 0
