-- Document 01, "Refusal numbers", for every call that takes factors: the record, the factors and the swap store are tested together, in one place.
use Rattle.std.specs.Prelude.{Bool, not, ◌&&◌, ◌||◌, List, [], ◌∷◌, ℕ, min, eqb, length}
use Rattle.numbers.specs.Column.{Column}
use Rattle.finite.specs.Finite.{all_finite}
use Rattle.store.specs.Columns.{is_matrix}
use Rattle.dead_columns.specs.Dead.{dead_of}
use Rattle.refusals.specs.Outcome.{first_holding}
use Rattle.refusals.specs.Refusals.{outside}
use Rattle.swap_list.specs.SwapList.{good_list}
use Rattle.factors.specs.declared.Record.{Record}
use Rattle.factors.specs.declared.Asks.{Asks}

-- document 02, request 7: "new 9, the number doesn't match, after 5 and before 6"; 6 goes by the number, which has been compared by then
abbrev pub dead_tests : Column → Record → Bool → List (ℕ × Bool)
dead_tests factors r solves = (9, not (eqb r.dead (dead_of factors r.rows r.columns))) ∷ (6, solves && not (eqb r.dead 0)) ∷ []

-- The tests 1 to 5, 9 and 6 in their order. What a call asks besides: that the matrix is square (2), that it can be solved (6), and that the call's further
-- sizes, lengths and numbers, and what it asks of the list, are good (1, 3, 5 and 4).
abbrev pub held_tests : Column → List ℕ → Record → Asks → List (ℕ × Bool)
held_tests factors store r asks =
    (1, outside 1 r.rows || outside 0 r.columns || not asks.sizes)
    ∷ (2, asks.square && not (eqb r.rows r.columns))
    ∷ (3, not (is_matrix factors r.rows r.columns && eqb (length store) 128 && asks.lengths))
    ∷ (4, not (good_list store r.pairs r.rows (min r.rows r.columns) && asks.list))
    ∷ (5, not (all_finite factors && asks.numbers))
    ∷ dead_tests factors r asks.solves

-- the refusal, 0 for none
unfoldable pub held_refusal : Column → List ℕ → Record → Asks → ℕ
held_refusal factors store r asks = first_holding (held_tests factors store r asks)
