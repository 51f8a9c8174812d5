-- What taking the last column off answers and leaves, on every input: document 02, request 2. A store s of the record's columns, and the swap store.
use Rattle.std.specs.Prelude.{Bool, true, false, not, cond, ◌&&◌, List, ◌++◌, ℕ, ◌-◌, min, ltb, leb, length, Result, Ok, Err}
use Rattle.numbers.specs.Column.{Column, zeros}
use Rattle.store.specs.Columns.{flat}
use Rattle.refusals.specs.Outcome.{done, tested, leaving}
use Rattle.refusals.specs.declared.Refused.{Refused}
use Rattle.swap_list.specs.SwapList.{Swaps, pairs_of, with_pair}
use Rattle.factors.specs.declared.Record.{Record}
use Rattle.factors.specs.declared.Asks.{Asks}
use Rattle.factors.specs.Factors.{Factors, record_for, factors_in, slices, Factoring}
use Rattle.factors.specs.Held.{held_refusal}
use Rattle.elimination.specs.Removing.{last_pair, undoes, pairs_before, remove_column}

-- What 4 asks besides a good list, n being the number of the last column: no "more than min(m, n - 1) pairs would remain", nor has the pair to be undone "its
-- second number below its first".
unfoldable pub good_undoing : ℕ → ℕ → Swaps → Bool
good_undoing m n swaps = leb (length (pairs_before n swaps)) (min m n) && not (undoes n swaps && ltb (last_pair swaps).1 (last_pair swaps).0)

-- what removing asks besides: "1 where no column is left", and that of the list; 5 tests all of the factors, the last column too
abbrev pub removing_asks : Record → Bool → Asks
removing_asks r list = record { square = false; solves = false; sizes = leb 1 r.columns; lengths = true; list = list; numbers = true }

-- the refusal before the work, 0 for none
unfoldable pub removing_refusal : Column → List ℕ → Record → ℕ
removing_refusal s store r = held_refusal s store r (removing_asks r (good_undoing r.rows (r.columns - 1) (pairs_of r.pairs store)))

-- "The removed slot and pair become zero": the swap store, and the factors with the slot behind them
unfoldable pub erased : ℕ → Swaps → List ℕ → List ℕ
erased n swaps store = cond (undoes n swaps) (with_pair (length swaps - 1) 0 0 store) store

unfoldable pub removing_made : List ℕ → Record → Factors → Factoring
removing_made store r f =
    let n = r.columns - 1 in
    let g = remove_column n f in
    record { answer = done (record_for r.rows n g); left = slices (flat g.columns ++ zeros r.rows) (erased n f.swaps store) }

-- the whole call
unfoldable pub removing : Column → List ℕ → Record → Factoring
removing s store r =
    tested (removing_refusal s store r) (leaving (slices s store)) (removing_made store r (factors_in s r.rows r.columns store r.pairs))

-- the record that the answer holds: the new one, or else the old one
abbrev pub record_in : Result Record (Refused Record) → Record
record_in (Ok new) = new
record_in (Err r) = r.old
