-- No call that reads factors reads what follows the last pair of the swap store: two stores that agree on their pairs give the same outcome, answer and slices.
-- Each by the refusal and the swaps, which are all that a call takes from the store. Assumes nothing.
use mathlib.Core.Path.{◌≡◌}
use mathlib.Core.List.{List}
use Prim.Native.Nat.{ℕ, min}
use Rattle.numbers.specs.Column.{Column}
use Rattle.factors.specs.declared.Record.{Record}
use Rattle.factors.proofs.Unread.{SamePairs, swaps_unread, held_unread}
use Rattle.from_factors.specs.Triangles.{read_asks, lowering, uppering}
use Rattle.from_factors.specs.Solving.{solve_asks, solving, tr_solving, inverse_asks, inverting}
use Rattle.from_factors.specs.Determinant.{square_asks, producing, determining, inverse_test}

module _ (r : Record) (factors : Column) (a b : List ℕ) (alike : SamePairs r.pairs a b) where
  -- THEOREM. Two swap stores that agree on their pairs give the same outcome: of a solve, of a transposed solve and of an inverse,
  pub solving_unread : (k : ℕ) (y x : Column) → solving factors a r y k x ≡ solving factors b r y k x
  unfolding solving
  solving_unread k y x = rw (held_unread r a b alike factors (solve_asks y r.rows k x), swaps_unread r a b alike)

  pub tr_solving_unread : (k : ℕ) (y x : Column) → tr_solving factors a r y k x ≡ tr_solving factors b r y k x
  unfolding tr_solving
  tr_solving_unread k y x = rw (held_unread r a b alike factors (solve_asks y r.rows k x), swaps_unread r a b alike)

  pub inverting_unread : (x : Column) → inverting factors a r x ≡ inverting factors b r x
  unfolding inverting
  inverting_unread x = rw (held_unread r a b alike factors (inverse_asks x r.rows), swaps_unread r a b alike)

  -- of the determinant and of the invertible test,
  pub determining_unread : determining factors a r ≡ determining factors b r
  unfolding determining producing
  determining_unread = rw (held_unread r a b alike factors square_asks)

  pub inverse_test_unread : inverse_test factors a r ≡ inverse_test factors b r
  unfolding inverse_test
  inverse_test_unread = rw (held_unread r a b alike factors square_asks)

  -- and of reading L and U
  pub lowering_unread : (out : Column) → lowering factors a r out ≡ lowering factors b r out
  unfolding lowering
  lowering_unread out = rw (held_unread r a b alike factors (read_asks out r.rows (min r.rows r.columns)))

  pub uppering_unread : (out : Column) → uppering factors a r out ≡ uppering factors b r out
  unfolding uppering
  uppering_unread out = rw (held_unread r a b alike factors (read_asks out (min r.rows r.columns) r.columns))
