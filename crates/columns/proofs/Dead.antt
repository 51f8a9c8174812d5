-- The number of dead columns stays true (document 02, request 7): after an accepted adding or removing it is that of the factors that were left, for any
-- factors that pass the tests, not only for those that factoring gave. By what the calls make. Assumes nothing.
use mathlib.Core.Path.{◌≡◌, sym, ap, ◌∙◌}
use mathlib.Core.List.{List, [], ◌∷◌, ◌++◌}
use Prim.Native.Nat.{ℕ, ◌+◌, ◌-◌, ◌*◌}
use lib.ListN.{length, take}
use Rattle.numbers.specs.Column.{Column, zeros}
use Rattle.finite.specs.Finite.{all_finite}
use Rattle.numbers.proofs.Choice.{test_cases, cond_cases}
use Rattle.store.specs.Columns.{columns, flat, HasRows}
use Rattle.store.specs.Steps.{Matrix, column, swap_in_all}
use Rattle.store.proofs.Columns.{sized, columns_flat, columns_front, columns_snoc, length_columns, length_flat}
use Rattle.store.proofs.Steps.{length_swap_in_all, rows_swap_in_all}
use Rattle.dead_columns.specs.Dead.{dead_in}
use Rattle.refusals.specs.Outcome.{done, number_of}
use Rattle.refusals.proofs.Outcomes.{none_given}
use Rattle.refusals.proofs.Cases.{done_same, never_both}
use Rattle.factors.specs.declared.Record.{Record}
use Rattle.factors.specs.Factors.{Factors, record_for, factors_in, slices, Factoring}
use Rattle.elimination.specs.Adding.{reduced}
use Rattle.elimination.specs.Own.{own_row, own_column}
use Rattle.elimination.specs.Removing.{last_pair, undoes, remove_column}
use Rattle.elimination.proofs.Own.{joined, length_own, length_reduced}
use Rattle.adding.specs.Adding.{older_factors, adding_settled, adding}
use Rattle.adding.proofs.Slot.{older_rows}
use Rattle.adding.proofs.Adds.{ready as ready-to-add, no_refusal, worked as worked-adding, adding_changes}
use Rattle.removing.specs.Removing.{removing_refusal, removing_made, removing}
use Rattle.removing.specs.Inner.{Ready}
use Rattle.removing.proofs.Removes.{ready, worked, size, older}

-- ---- one column more
module _ (r : Record) (s c : Column) (store : List ℕ) (next : Record) (e : (adding s c store r).answer ≡ done next) where
  abbrev m : ℕ
  m = r.rows

  abbrev n : ℕ
  n = r.columns

  abbrev x : Column
  x = reduced m (older_factors s store r) c

  -- the older columns with their two rows exchanged
  abbrev exchanged : Matrix
  exchanged = swap_in_all n (own_row n x) (columns m n s)

  -- what is left, by its columns
  left_columns : columns m (n + 1) (adding s c store r).left.factors ≡ exchanged ++ own_column n x ∷ []
  left_columns =
      let go = ready-to-add r s c store (no_refusal r s c store (ap number_of e)) in
      let rows = rows_swap_in_all n m (own_row n x) (columns m n s) (older_rows m n s (sized m (n + 1) s go.room).size) in
      let wide : length exchanged ≡ n = length_swap_in_all n (own_row n x) (columns m n s) ∙ length_columns m n s in
      let long : length (flat exchanged) ≡ n * m = length_flat m exchanged rows ∙ ap (λ (k : ℕ). k * m) wide in
      ap (columns m (n + 1)) (adding_changes r s c store (ap number_of e)).0
      ∙ columns_snoc m n (flat exchanged) (own_column n x) long (length_own n x ∙ length_reduced m (older_factors s store r) c ∙ go.long)
      ∙ ap (λ (cs : Matrix). cs ++ own_column n x ∷ []) (ap (λ (k : ℕ). columns m k (flat exchanged)) (sym wide) ∙ columns_flat m exchanged rows)

  -- THEOREM. An accepted adding tells how many columns of the factors that it leaves are dead.
  pub adding_matches : next.dead ≡ dead_in m (columns m (n + 1) (adding s c store r).left.factors)
  unfolding adding_settled
  adding_matches =
      let go = ready-to-add r s c store (no_refusal r s c store (ap number_of e)) in
      let w : adding s c store r ≡ adding_settled s store r (joined n (own_row n x) (older_factors s store r) (own_column n x)) =
      worked-adding r s c store go in
      let given = ap (λ (o : Factoring). o.answer) (sym w) ∙ e in
      test_cases (all_finite (column (exchanged ++ own_column n x ∷ []) n))
      (λ t. ap (λ (q : Record). q.dead) (sym (done_same _ next (rw t at given))) ∙ ap (dead_in m) (sym left_columns))
      (λ t. never_both next 7 (sym (rw t at given)))

-- ---- one column less
module _ (r : Record) (s : Column) (store : List ℕ) (next : Record) (e : (removing s store r).answer ≡ done next) where
  abbrev f : Factors
  f = factors_in s r.rows r.columns store r.pairs

  abbrev last : ℕ
  last = r.columns - 1

  abbrev g : Factors
  g = remove_column last f

  go : Ready s store r
  unfolding removing
  go = ready r s store (none_given (removing_refusal s store r) (slices s store) (removing_made store r f) (ap number_of e))

  -- the columns that remain have m rows each
  remaining : HasRows r.rows g.columns × (length g.columns ≡ last)
  unfolding remove_column
  remaining =
      let cs = take last f.columns in
      let is : columns r.rows last s ≡ cs = sym (older r s store go) in
      let rows : HasRows r.rows cs = rw is at (older_rows r.rows last s (size r s store go)) in
      let wide : length cs ≡ last = ap length (sym is) ∙ length_columns r.rows last s in
      let q = (last_pair f.swaps).1 in
      cond_cases (λ (ds : Matrix). HasRows r.rows ds × (length ds ≡ last)) (undoes last f.swaps)
      (λ t. (rows_swap_in_all last r.rows q cs rows, length_swap_in_all last q cs ∙ wide)) (λ t. (rows, wide))

  -- THEOREM. An accepted removing tells how many columns of those that remain are dead.
  pub removing_matches : next.dead ≡ dead_in r.rows (columns r.rows (r.columns - 1) (removing s store r).left.factors)
  unfolding removing_made
  removing_matches =
      let m = r.rows in
      let w = worked r s store go in
      let told = done_same (record_for m last g) next (ap (λ (o : Factoring). o.answer) (sym w) ∙ e) in
      let long : length (flat g.columns) ≡ last * m = length_flat m g.columns remaining.0 ∙ ap (λ (k : ℕ). k * m) remaining.1 in
      let left : columns m last (removing s store r).left.factors ≡ g.columns =
      ap (λ (o : Factoring). columns m last o.left.factors) w
      ∙ columns_front m last (flat g.columns) (zeros m) long
      ∙ ap (λ (k : ℕ). columns m k (flat g.columns)) (sym remaining.1)
      ∙ columns_flat m g.columns remaining.0 in
      ap (λ (q : Record). q.dead) (sym told) ∙ ap (dead_in m) (sym left)
