-- One right-hand column as one block: a block of all rows has all turns, and these give the pass. Assumes nothing.
use mathlib.Core.Path.{◌≡◌, sym, ap, ◌∙◌}
use mathlib.Core.Bool.{Bool, true, false}
use mathlib.Core.List.{append-nil}
use Prim.Native.Nat.{ℕ}
use native.Mathlib.Nat.{one-mul}
use native.Mathlib.Omega.{arith}
use lib.ListN.{length, take}
use lib.Seq.{take_all}
use Rattle.numbers.specs.Each.{each_from, turns_from}
use Rattle.numbers.specs.Column.{Column}
use Rattle.store.specs.Columns.{columns, flat, is_matrix}
use Rattle.store.proofs.Columns.{sized, is_matrix_lem}
use Rattle.triangular_passes.specs.declared.Pass.{Pass}
use Rattle.triangular_passes.specs.Triangular.{solved_column, solved_from, solved_in_place}
use Rattle.solve.proofs.Alone.{in_place_flat}
use Rattle.solve.proofs.Corrected.{Doubles}
use Rattle.solve_by_rows.specs.Rows.{pass_of, both_passes, row_done}
use Rattle.solve_by_rows.proofs.Same.{rows_solve}
use Rattle.solve_by_rows.proofs.Blocks.{full}

-- a pass over a single right-hand column
one_solved : (pass : Pass) (n : ℕ) (t b : Column) → is_matrix t n n ≡ true → length b ≡ n → solved_in_place pass t n b 1
    ≡ solved_column pass n (columns n n t) b
unfolding columns flat each_from solved_from
one_solved pass n t b matrix long =
    let fits = is_matrix_lem n 1 b (sized n n t matrix).rows_most (omega arith) (long ∙ sym (one-mul n)) in
    in_place_flat pass n 1 t b matrix fits
    ∙ append-nil (solved_column pass n (columns n n t) (take n b))
    ∙ ap (solved_column pass n (columns n n t)) (take_all n b (omega arith))

module _ (n : ℕ) (t : Column) (matrix : is_matrix t n n ≡ true) where
  -- a block of all rows gives the pass
  whole_block : (upward : Bool) (b b' : Column) → length b ≡ n → Doubles b → b' ≡ turns_from (row_done upward n (columns n n t)) 0 n b
      → b' ≡ solved_in_place (pass_of upward) t n b 1
  whole_block upward b b' long all made =
      made
      ∙ rows_solve upward n (columns n n t) b (full n t (sized n n t matrix).size) long all
      ∙ sym (one_solved (pass_of upward) n t b matrix long)

  -- so two blocks, one after the other, give both passes
  pub two_blocks : (b b' b'' : Column) → length b ≡ n → length b' ≡ length b → Doubles b → Doubles b'
      → b' ≡ turns_from (row_done false n (columns n n t)) 0 n b
      → b'' ≡ turns_from (row_done true n (columns n n t)) 0 n b'
      → b'' ≡ both_passes t n b
  two_blocks b b' b'' long kept all all' down up =
      whole_block true b' b'' (kept ∙ long) all' up
      ∙ ap (λ (c : Column). solved_in_place (pass_of true) t n c 1) (whole_block false b b' long all down)

-- the same of sizes that go by other names
pub both_blocks : (n k : ℕ) (same : n ≡ k) (t : Column) (matrix : is_matrix t n n ≡ true) (b b' b'' : Column) (w w' : ℕ) → w ≡ k → w' ≡ k → length b ≡ n
    → length b' ≡ length b → Doubles b → Doubles b'
    → b' ≡ turns_from (row_done false k (columns k k t)) 0 w b
    → b'' ≡ turns_from (row_done true k (columns k k t)) 0 w' b'
    → b'' ≡ both_passes t n b
both_blocks n k same t matrix b b' b'' w w' e e' long kept all all' down up =
    two_blocks n t matrix b b' b'' long kept all all' (rw (e, sym same) at down) (rw (e', sym same) at up)
