-- What adding a column answers and leaves, on every input: document 01, "Adding a column" and "Refusal numbers". A store s with room for one column more behind
-- those of the record r, the raw column c, and the swap store.
use Rattle.std.specs.Prelude.{true, false, cond, ◌&&◌, List, ◌++◌, ℕ, ◌+◌, ◌*◌, leb, eqb, length, take, Result, Ok, Err}
use Rattle.numbers.specs.Column.{Column, zeros}
use Rattle.finite.specs.Finite.{all_finite}
use Rattle.store.specs.Columns.{flat, is_matrix}
use Rattle.store.specs.Steps.{column}
use Rattle.refusals.specs.Outcome.{Outcome, done, refused, number, tested, leaving}
use Rattle.refusals.specs.declared.Refused.{Refused}
use Rattle.factors.specs.declared.Record.{Record}
use Rattle.factors.specs.declared.Asks.{Asks}
use Rattle.factors.specs.Factors.{Factors, written, record_for, factors_in, slices, Factoring}
use Rattle.factors.specs.Held.{held_refusal}
use Rattle.elimination.specs.Adding.{add_column}
use Rattle.elimination.specs.TossUps.{own_toss_up}
use Rattle.lu.specs.declared.Factored.{Factored}
use Rattle.lu.specs.Factoring.{with_toss_ups}

-- what adding asks besides: "n of 64 gives 1"; the store has room for one column more, and the raw column has m entries; it is finite
abbrev pub adding_asks : Column → Column → Record → Asks
adding_asks s c r =
    record {
      square = false;
      solves = false;
      sizes = leb r.columns 63;
      lengths = is_matrix s r.rows (r.columns + 1) && eqb (length c) r.rows;
      list = true;
      numbers = all_finite c;
    }

-- the older columns; "not the slot that adding is to fill" is tested
abbrev pub older_in : Column → Record → Column
older_in s r = take (r.columns * r.rows) s

-- the refusal before the work, 0 for none
unfoldable pub adding_refusal : Column → Column → List ℕ → Record → ℕ
adding_refusal s c store r = held_refusal (older_in s r) store r (adding_asks s c r)

-- the factors that the slices hold before
abbrev pub older_factors : Column → List ℕ → Record → Factors
older_factors s store r = factors_in s r.rows r.columns store r.pairs

-- refusal 7: "its slot +0.0, all else as it was"; the swap store has the pairs at its front, and "adding a column writes at most the next pair"
unfoldable pub adding_settled : Column → List ℕ → Record → Factors → Factoring
adding_settled s store r g =
    cond (all_finite (column g.columns r.columns))
    (record { answer = done (record_for r.rows (r.columns + 1) g); left = slices (flat g.columns) (written g.swaps store) })
    (leaving (slices (older_in s r ++ zeros r.rows) store) 7)

-- the whole call
unfoldable pub adding : Column → Column → List ℕ → Record → Factoring
adding s c store r =
    tested (adding_refusal s c store r) (leaving (slices s store)) (adding_settled s store r (add_column r.rows (older_factors s store r) c))

-- ---- the answer: the record with the column's own toss-up (document 02, request 3), or the refusal; and in either case the record that it holds

-- what each case of the answer stands for
abbrev pub added : Result Factored (Refused Record) → Outcome (Record × ℕ)
added (Ok f) = done (f.told, f.toss_ups)
added (Err r) = refused (number r.refusal)

-- the record that it holds: the new one, or else the old one
abbrev pub record_in : Result Factored (Refused Record) → Record
record_in (Ok f) = f.told
record_in (Err r) = r.old

unfoldable pub adding_answer : Column → Column → List ℕ → Record → Outcome (Record × ℕ)
adding_answer s c store r = with_toss_ups (own_toss_up r.rows (older_factors s store r) c) (adding s c store r).answer
