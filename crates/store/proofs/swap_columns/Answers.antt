-- By the tests; the scratch are arrays of 64, and m is at most that. Assumes nothing.
use mathlib.Core.Path.{refl, sym, ◌∙◌}
use native.Mathlib.Omega.{arith}
use Rattle.store.proofs.Columns.{sized, column_within, scratch_length, on_none, on_done}
use Rattle.store.proofs.Steps.{swapped_none}
use Rattle.store.proofs.swap_columns.Goals as goal

pub returns-then-not-is_matrix : goal.returns-then-not-is_matrix
returns-then-not-is_matrix c = on_none _ _ _ _ (sym c.is_matrix.ensures ∙ c.if-not-is_matrix.true)

pub returns-then-n-i : goal.returns-then-n-i
returns-then-n-i c =
    on_done _ _ _ _ _ (sym c.is_matrix.ensures ∙ c.if-not-is_matrix.false) refl
    (swapped_none _ _ _ _ _ (λ hi hj. omega (arith, hi)))

pub returns-then-n-j : goal.returns-then-n-j
returns-then-n-j c =
    on_done _ _ _ _ _ (sym c.is_matrix.ensures ∙ c.if-not-is_matrix.false) refl
    (swapped_none _ _ _ _ _ (λ hi hj. omega (arith, hj)))

pub swap_columns_by-requires : goal.swap_columns_by-requires
swap_columns_by-requires c =
    let fits = sized _ _ _ (sym c.is_matrix.ensures ∙ c.if-not-is_matrix.false) in
    let s = c.args.s.now in
    let hi = c.if-n-i.false in
    let hj = c.if-n-j.false in
    let long = scratch_length _ _ fits.rows_most in
    record { s_len = (fits.size, long, long); i_lt_n = (hi, hj, column_within _ _ _ s hi fits.size, column_within _ _ _ s hj fits.size) }

pub returns : goal.returns
returns c =
    on_done _ _ _ _ _ (sym c.is_matrix.ensures ∙ c.if-not-is_matrix.false) c.swap_columns_by.auto.s
    c.swap_columns_by.ensures

pub slice_bounds-x-end : goal.slice_bounds-x-end
slice_bounds-x-end c = (sized _ _ _ (sym c.is_matrix.ensures ∙ c.if-not-is_matrix.false)).rows_most

pub slice_bounds-y-end : goal.slice_bounds-y-end
slice_bounds-y-end c = (sized _ _ _ (sym c.is_matrix.ensures ∙ c.if-not-is_matrix.false)).rows_most
