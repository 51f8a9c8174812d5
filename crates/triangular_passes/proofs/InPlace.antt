-- A pass as a loop over the right-hand columns: what is left to solve from column j on gives all of them solved, a turn keeps that, and with no column left the
-- slice holds the pass's result. For every pass, so for the loops of `solve_by_rows` too. Assumes nothing.
use mathlib.Core.Path.{◌≡◌, sym, ◌∙◌}
use mathlib.Core.Bool.{true, false}
use Prim.Native.Nat.{ℕ, ◌+◌, ◌-◌, ◌*◌, ◌≤◌, ◌<◌}
use borrow.Rule.Slice.PartMut.{mid_of, put_mid, same_len_mid}
use lib.ListN.{length}
use Rattle.numbers.specs.Column.{Column}
use Rattle.store.specs.Columns.{columns, is_matrix}
use Rattle.store.proofs.Columns.{sized, column_within, column_turn, column_stop, on_none, on_done}
use Rattle.triangular_passes.specs.declared.Pass.{Pass}
use Rattle.triangular_passes.specs.Triangular.{solved_column, solved_from, solved_columns, solved_in_place}

module _ (pass : Pass) (n k : ℕ) (t b₀ : Column) where
  -- b₀ is solved up to column j, and b is what the slice holds then
  pub record Left (j : ℕ) (b : Column) : Type 0 where
    pub long : length b ≡ length b₀
    pub left : solved_from pass n (columns n n t) j (columns n k b) ≡ solved_columns pass n (columns n n t) (columns n k b₀)

  module _ (sides : is_matrix b₀ n k ≡ true) (j : ℕ) (b : Column) (so_far : Left j b) where
    size : length b ≡ k * n
    size = so_far.long ∙ (sized n k b₀ sides).size

    -- column j, by its place in the slice
    abbrev part : Column
    part = mid_of (j * n) (j * n + n - j * n) b

    pub left_within : j < k → j * n + n ≤ length b
    left_within h = column_within n k j b h size

    pub left_turn : (c : Column) → j < k → length c ≡ length part → c ≡ solved_column pass n (columns n n t) part
        → Left (j + 1) (put_mid (j * n) (j * n + n - j * n) b c)
    unfolding solved_from
    left_turn c h kept made = record {
      long = same_len_mid (j * n) (j * n + n - j * n) b c kept ∙ so_far.long;
      left = column_turn _ n k j b c h size kept made ∙ so_far.left;
    }

    pub left_none : is_matrix t n n ≡ true → k ≤ j → b ≡ solved_in_place pass t n b₀ k
    unfolding solved_in_place solved_from
    left_none matrix h = rw matrix (on_done n k _ b₀ b sides so_far.long (sym (column_stop _ n k j b h) ∙ so_far.left))

  -- the loop's invariant: the same of slices that hold matrices; that b is as long as b₀ is known of any slice that is lent
  pub record Going (j : ℕ) (b : Column) : Type 0 where
    pub matrix : is_matrix t n n ≡ true
    pub sides : is_matrix b₀ n k ≡ true
    pub left : solved_from pass n (columns n n t) j (columns n k b) ≡ solved_columns pass n (columns n n t) (columns n k b₀)

  module _ (j : ℕ) (b : Column) (so_far : Going j b) (long : length b ≡ length b₀) where
    now : Left j b
    now = record { long = long; left = so_far.left }

    pub going_within : j < k → j * n + n ≤ length b
    going_within h = left_within so_far.sides j b now h

    pub going_turn : (c : Column) → j < k → length c ≡ length (mid_of (j * n) (j * n + n - j * n) b)
        → c ≡ solved_column pass n (columns n n t) (mid_of (j * n) (j * n + n - j * n) b)
        → Going (j + 1) (put_mid (j * n) (j * n + n - j * n) b c)
    going_turn c h kept made =
        record { matrix = so_far.matrix; sides = so_far.sides; left = (left_turn so_far.sides j b now c h kept made).left }

    pub going_none : k ≤ j → b ≡ solved_in_place pass t n b₀ k
    going_none h = left_none so_far.sides j b now so_far.matrix h

  -- where a slice holds no such matrix, b₀ stays
  pub no_matrix : is_matrix t n n ≡ false → b₀ ≡ solved_in_place pass t n b₀ k
  unfolding solved_in_place
  no_matrix h = rw h

  pub no_sides : is_matrix t n n ≡ true → is_matrix b₀ n k ≡ false → b₀ ≡ solved_in_place pass t n b₀ k
  unfolding solved_in_place
  no_sides matrix h = rw matrix (on_none n k _ b₀ h)

-- what such a loop needs
pub ruleset column_loop = (going_within, going_turn, going_none, no_matrix, no_sides)
