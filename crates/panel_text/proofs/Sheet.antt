-- The order on the sheet after a pad is added. For every panel file: factoring all columns of its matrix but the last, adding that one, solving for the
-- readings and ranking prints exactly the sheet that `panel_order` prints of the file, the refusals too; and so does any other mix of adding and removing that
-- ends at the file's columns. The same of what `panel_moves` prints. By DEMAND 3, `reached` and `adding_reached`: what was reached so is what factoring the
-- file's matrix afresh gives; and where the factors of all columns but the last are not finite, those of the whole are not. Assumes nothing.
use mathlib.Core.Path.{◌≡◌, refl, sym, ap, ap₂, subst, ◌∙◌}
use mathlib.Core.Bool.{Bool, true, false, false≢true}
use mathlib.Core.List.{List, [], ◌∷◌, ◌++◌}
use Prim.Native.Nat.{ℕ, suc, ◌+◌, ◌-◌, ◌*◌, ◌≤◌}
use native.Mathlib.Nat.{suc-mul}
use native.Mathlib.Omega.{arith}
use borrow.Author.Tests.{ne_eqb, le-ltb}
use lib.ListN.{length, take, drop, replicate, length-replicate, length-drop, take-append-drop}
use lib.Seq.{length-take-le}
use Rattle.numbers.specs.Numbers.{zero64}
use Rattle.numbers.specs.Column.{Column, zeros}
use Rattle.numbers.proofs.Each.{length_each, length_list}
use Rattle.numbers.proofs.Choice.{test_cases, cond_cases, and_first}
use Rattle.finite.specs.Finite.{all_finite}
use Rattle.finite.proofs.Finite.{finite_append}
use Rattle.store.specs.Columns.{columns, flat, HasRows}
use Rattle.store.specs.Steps.{Matrix}
use Rattle.store.proofs.Columns.{is_matrix_lem, same_matrix, length_columns, columns_rows, columns_snoc, each_rows, length_flat}
use Rattle.refusals.specs.Outcome.{Outcome, done, refused, number_of, first_holding, and_then, Call, leaving}
use Rattle.refusals.specs.Refusals.{seventh}
use Rattle.refusals.proofs.Outcomes.{tested_none, tested_cases, tested_map, then_then}
use Rattle.swap_list.specs.SwapList.{pairs_of}
use Rattle.exchanges.specs.Permute.{permute}
use Rattle.exchanges.proofs.Permute.{length_permute}
use Rattle.triangular_passes.specs.declared.Pass.TheVariants.{Upper, GivenDiagonal}
use Rattle.triangular_passes.proofs.Lengths.{length_solved}
use Rattle.factors.specs.declared.Record.{Record}
use Rattle.factors.specs.Factors.{record_for, Factoring}
use Rattle.factors.specs.Held.{held_refusal}
use Rattle.elimination.specs.Elimination.{eliminate}
use Rattle.lu.specs.Factoring.{settled, factoring}
use Rattle.lu.proofs.Told.{passes, worked}
use Rattle.adding.specs.Adding.{adding}
use Rattle.adding.proofs.Front.{finite_front}
use Rattle.columns.proofs.Reach.{Reached, fresh, reached, adding_reached}
use Rattle.from_factors.specs.Solving.{Way, solved, tr_solved, solved_all, unit_column, solve_asks, solved_by, solving_by, solving, tr_solving}
use Rattle.ranking.specs.Ranking.{every_pad, ranking}
use Rattle.ranking.proofs.Calls.{not_refused, listing_all, ranking_all}
use Rattle.panel_file.specs.File.{pads_of, matrix_of, readings_of}
use Rattle.panel_file.specs.Reading.{file_tests, file_refusal}
use Rattle.refusals.proofs.Cases.{first_behind, done_same, never_both, tested_done, then_done}
use Rattle.panel_file.proofs.Reading.{file_numbered}
use Rattle.crossing.specs.Below.{Packed, packed, factors_of, system_of, solution_by}
use Rattle.crossing.specs.Factors.{factors_in, loads_of}
use Rattle.crossing_pads.specs.Moving.{no_pad, moves_refusal, moves_of}
use Rattle.crossing.proofs.Below.{Good, factored_rows}
use Rattle.crossing.proofs.Factors.{file_good}
use Rattle.crossing.proofs.Loads.{loads_known}
use Rattle.panel_text.specs.Text.{pads_text, refused_text}
use Rattle.panel_text.specs.Printed.{order_text, text_of, change_text, moves_text_of}

-- ---- what is printed by the calls on factors

-- the columns of all pads of a file but the last, and the column of the last
abbrev pub older_columns : List ℕ → Column
older_columns bytes = let n = pads_of bytes in take ((n - 1) * n) (matrix_of n bytes)

abbrev pub last_column : List ℕ → Column
last_column bytes = let n = pads_of bytes in drop ((n - 1) * n) (matrix_of n bytes)

-- what factoring, adding or removing came to: the factors as the slices hold them, or the refusal
abbrev pub held_in : Factoring → Outcome Packed
held_in o = and_then o.answer (λ told. done (packed o.left.factors o.left.store told))

-- The last pad added: the older columns factored into the slices `older` and `store`, then the last column added in a slot that held z; or the first refusal.
abbrev pub by_adding : List ℕ → Column → List ℕ → Column → Outcome Packed
by_adding bytes older store z =
    let n = pads_of bytes in
    and_then (held_in (factoring (older_columns bytes) n (n - 1) older store))
    (λ f. held_in (adding (f.factors ++ z) (last_column bytes) f.swaps f.told))

-- a solve: what its slice then holds, or the refusal
abbrev pub solved_in : Call (Unit {0}) Column → Outcome Column
solved_in x = and_then x.answer (λ _. done x.left)

-- the loads by a file's factors: its readings solved for, into the slice `out`
abbrev pub loads_by : List ℕ → Packed → Column → Outcome Column
loads_by bytes f out = solved_in (solving f.factors f.swaps f.told (readings_of (pads_of bytes) bytes) 1 out)

-- a ranking of n loads, all pads listed: the text of the pads in that order, or the refusal
abbrev pub lined_up : ℕ → Column → Call ℕ (List ℕ) → Outcome (List ℕ)
lined_up n loads r = and_then r.answer (λ _. done (pads_text n loads r.left))

-- a text, or `refused K`
abbrev pub printed : Outcome (List ℕ) → List ℕ
printed (done text) = text
printed (refused number) = refused_text number

-- The sheet by factors that are held: the readings are solved for, into the slice `out`, the loads ranked, into the slice `ranks`, and the pads printed in that
-- order; or the first refusal is printed.
abbrev pub sheet_by : List ℕ → Outcome Packed → Column → List ℕ → List ℕ
sheet_by bytes held out ranks =
    let n = pads_of bytes in
    printed (and_then held (λ f. and_then (loads_by bytes f out) (λ loads. lined_up n loads (ranking every_pad loads n ranks))))

-- the same of how a pad's load moves with each reading: the transposed solve of its unit column
abbrev pub moves_by : List ℕ → Outcome Packed → ℕ → Column → List ℕ
moves_by bytes held pad out =
    change_text (and_then held (λ f. solved_in (tr_solving f.factors f.swaps f.told (unit_column (pads_of bytes) (pad - 1)) 1 out)))

-- ---- n by n matrices: the whole, and all its columns but the last
module _ (n : ℕ) (a : Column) (good : Good n a) where
  abbrev older : Column
  older = take ((n - 1) * n) a

  abbrev last : Column
  last = drop ((n - 1) * n) a

  one_more : n - 1 + 1 ≡ n
  one_more = omega (arith, good.least)

  entries : n * n ≡ (n - 1) * n + n
  entries =
      let more : n ≡ suc (n - 1) = omega (arith, good.least) in
      ap (λ (k : ℕ). k * n) more ∙ suc-mul (n - 1) n

  older_long : length older ≡ (n - 1) * n
  older_long = length-take-le ((n - 1) * n) a (omega (arith, entries, good.size))

  last_long : length last ≡ n
  last_long = length-drop ((n - 1) * n) a ∙ omega (arith, entries, good.size)

  parts : older ++ last ≡ a
  parts = take-append-drop ((n - 1) * n) a

  whole_long : length a ≡ (n - 1 + 1) * n
  whole_long = good.size ∙ ap (λ (k : ℕ). k * n) (sym one_more)

  -- the whole matrix factored where it lies
  abbrev whole : Factoring
  whole = factoring a n n a (replicate 128 0)

  whole_parts : factoring (older ++ last) n (n - 1 + 1) a (replicate 128 0) ≡ whole
  whole_parts = ap₂ (λ (k : ℕ) (b : Column). factoring b n k a (replicate 128 0)) one_more parts

  settles : (k : ℕ) (b out : Column) (store : List ℕ) → k ≤ 64 → all_finite b ≡ true → length b ≡ k * n → length out ≡ k * n → length store ≡ 128
      → factoring b n k out store ≡ settled n k (eliminate n (columns n k b))
  settles k b out store few finite lb lo ls =
      worked n k b out store
      (passes n k b out store
      (record {
        rows = record { at_least = good.least; at_most = good.most };
        cols = record { at_least = omega arith; at_most = few };
        matrix = is_matrix_lem n k b good.most few lb;
        slice = is_matrix_lem n k out good.most few lo;
        room = ls;
        numbers = finite;
      }))

  older_finite : all_finite older ≡ true
  older_finite = and_first (all_finite older) (all_finite last) (sym (finite_append older last) ∙ ap all_finite parts ∙ good.finite)

  whole_columns : columns n n a ≡ columns n (n - 1) older ++ last ∷ []
  whole_columns =
      ap₂ (λ (k : ℕ) (b : Column). columns n k b) (sym one_more) (sym parts) ∙ columns_snoc n (n - 1) older last older_long last_long

  -- where the older columns' factors overflow, so do those of the whole
  older_refused : (out : Column) (store : List ℕ) → length out ≡ (n - 1) * n → length store ≡ 128 → (k : ℕ)
      → (factoring older n (n - 1) out store).answer ≡ refused k → whole.answer ≡ refused k
  unfolding settled
  older_refused out store lo ls k e =
      test_cases (all_finite (flat (eliminate n (columns n (n - 1) older)).columns))
      (λ t. never_both (record_for n (n - 1) (eliminate n (columns n (n - 1) older))) k (rw (is, t) at e))
      (λ t.
      let seven : refused 7 ≡ refused k = rw (is, t) at e in
      test_cases (all_finite (flat (eliminate n (columns n n a)).columns))
      (λ u. absurd (false≢true (sym t ∙ finite_front n (columns n (n - 1) older) (last ∷ []) rows (ap finite_by (sym whole_columns) ∙ u))))
      (λ u. ap (λ (o : Factoring). o.answer) all ∙ rw u seven))
    where
      is : factoring older n (n - 1) out store ≡ settled n (n - 1) (eliminate n (columns n (n - 1) older))
      is = settles (n - 1) older out store (omega (arith, good.most)) older_finite older_long lo ls

      all : whole ≡ settled n n (eliminate n (columns n n a))
      all = settles n a a (replicate 128 0) good.most good.finite good.size good.size (length-replicate {A = ℕ} 128 0)

      finite_by : Matrix → Bool
      finite_by cs = all_finite (flat (eliminate n cs).columns)

      rows : HasRows n (columns n (n - 1) older ++ last ∷ [])
      rows = subst (HasRows n) whole_columns (columns_rows n n a good.size)

-- ---- the solves of a file's factors; what their slice `out` held does not matter

then_same : {A B : Type 0} (o : Outcome A) (f g : A → Outcome B) → ((x : A) → o ≡ done x → f x ≡ g x) → and_then o f ≡ and_then o g
then_same (done x) f g same = same x refl
then_same (refused k) f g same = refl

held_refused : (o : Factoring) (k : ℕ) → o.answer ≡ refused k → held_in o ≡ refused k
held_refused o k e = ap (λ (x : Outcome Record). and_then x (λ told. done (packed o.left.factors o.left.store told))) e

module _ (b out : Column) where
  any_slice : (way : Way) (r : Record) (f : Column) (s : List ℕ) → length out ≡ r.rows
      → solved_in (solving_by way f s r b 1 out) ≡ solved_in (solving_by way f s r b 1 (zeros r.rows))
  any_slice way r f s fits =
      let m = r.rows in
      let number = held_refusal f s r (solve_asks b m 1 (zeros m)) in
      let made = seventh (solved_by way f s r (columns m 1 b)) in
      rw (same_matrix m 1 (zeros m) out (fits ∙ sym (length-replicate m zero64)))
      (tested_map solved_in number (leaving out) made ∙ sym (tested_map solved_in number (leaving (zeros m)) made))

  solve_same : (t : Bool) (p : Packed) → length out ≡ p.told.rows → solved_in (system_of t p.factors p.swaps p.told b 1 out) ≡ solution_by t p b
  unfolding solving tr_solving solution_by
  solve_same true p = any_slice tr_solved p.told p.factors p.swaps
  solve_same false p = any_slice solved p.told p.factors p.swaps

-- an accepted solution has as many numbers as the right-hand column
module _ (b : Column) (p : Packed) (long : length b ≡ p.told.rows) where
  abbrev rows_of : ℕ
  rows_of = p.told.rows

  abbrev made : Column
  made = solved_by solved p.factors p.swaps p.told (columns rows_of 1 b)

  made_long : length made ≡ rows_of
  unfolding solved_all solved
  made_long =
      let m = rows_of in
      let cs = columns m m p.factors in
      let swaps = pairs_of p.told.pairs p.swaps in
      let all = solved_all solved m cs swaps (columns m 1 b) in
      let wide : length all ≡ 1 = length_each _ 0 (columns m 1 b) ∙ length_columns m 1 b in
      let keeps : (c : Column) → length (solved m cs swaps c) ≡ length c =
      λ c. length_solved Upper m cs _ ∙ length_solved (GivenDiagonal _) m cs (permute swaps c) ∙ length_permute swaps c in
      let tall : HasRows m all = each_rows m _ 0 (columns m 1 b) (λ j c e. keeps c ∙ e) (columns_rows m 1 b (omega (arith, long))) in
      length_flat m all tall ∙ ap (λ (k : ℕ). k * m) wide ∙ omega arith

  solution_long : (x : Column) → solution_by false p b ≡ done x → length x ≡ rows_of
  unfolding solution_by solving seventh
  solution_long x =
      let number = held_refusal p.factors p.swaps p.told (solve_asks b rows_of 1 (zeros rows_of)) in
      tested_cases number (leaving (zeros rows_of)) (seventh made) (λ c. solved_in c ≡ done x → length x ≡ rows_of)
      (λ _. cond_cases (λ (c : Call (Unit {0}) Column). solved_in c ≡ done x → length x ≡ rows_of) (all_finite made)
      (λ _ e. ap length (sym (done_same made x e)) ∙ made_long) (λ _ e. never_both x 7 (sym e))) (λ _ e. never_both x number (sym e))

module _ (bytes : List ℕ) (out : Column) (fits : length out ≡ pads_of bytes) where
  file_rows : (p : Packed) → factors_in bytes ≡ done p → length out ≡ p.told.rows
  unfolding factors_in
  file_rows p e =
      let n = pads_of bytes in
      let both = tested_done (file_refusal bytes) (factors_of (matrix_of n bytes) n) p e in
      fits ∙ sym (factored_rows n (matrix_of n bytes) (file_good bytes both.0) p both.1)

  solves : (t : Bool) (b : Column) → and_then (factors_in bytes) (λ p. solved_in (system_of t p.factors p.swaps p.told b 1 out))
      ≡ and_then (factors_in bytes) (λ p. solution_by t p b)
  solves t b = then_same (factors_in bytes) _ _ (λ p e. solve_same b out t p (file_rows p e))

  -- the file's loads are n finite numbers, which are ranked
  loads_long : (x : Column) → loads_of bytes ≡ done x → length x ≡ pads_of bytes
  unfolding loads_of
  loads_long x e =
      let b = readings_of (pads_of bytes) bytes in
      then_done (factors_in bytes) (λ p. solution_by false p b) x e
      (λ p d f. let rows = file_rows p d in solution_long b p (length_list (pads_of bytes) _ ∙ sym fits ∙ rows) x f ∙ sym rows ∙ fits)

  loads_ranked : (ranks : List ℕ) → length ranks ≡ pads_of bytes → (o : Outcome Column) → loads_of bytes ≡ o
      → printed (and_then o (λ x. lined_up (pads_of bytes) x (ranking every_pad x (pads_of bytes) ranks))) ≡ order_text (pads_of bytes) o
  unfolding order_text
  loads_ranked ranks lr (done x) e =
      let n = pads_of bytes in
      let known = loads_known bytes x e in
      let none = not_refused n x ranks
      (record { size = record { at_least = known.0; at_most = known.1 }; loads_length = loads_long x e; ranks_length = lr; finite = known.2 }) in
      ap (λ (r : Call ℕ (List ℕ)). printed (lined_up n x r)) (ranking_all n x ranks none) ∙ ap (pads_text n x) (listing_all n x)
  loads_ranked ranks lr (refused k) e = refl

  -- the file's factors, however they were made, print its sheet
  sheet_printed : (ranks : List ℕ) → length ranks ≡ pads_of bytes → (held : Outcome Packed) → held ≡ factors_in bytes → sheet_by bytes held out ranks
      ≡ text_of bytes
  unfolding text_of loads_of
  sheet_printed ranks lr held e =
      let n = pads_of bytes in
      let line : Column → Outcome (List ℕ) = λ x. lined_up n x (ranking every_pad x n ranks) in
      ap (λ (h : Outcome Packed). sheet_by bytes h out ranks) e
      ∙ ap printed (sym (then_then (factors_in bytes) _ line) ∙ ap (λ (o : Outcome Column). and_then o line) (solves false (readings_of n bytes)))
      ∙ loads_ranked ranks lr (loads_of bytes) refl

  -- and its moves, of a pad of the crossing
  moves_printed : (held : Outcome Packed) → held ≡ factors_in bytes → (pad : ℕ) → moves_refusal bytes pad ≡ 0 → moves_by bytes held pad out
      ≡ moves_text_of bytes pad
  unfolding moves_text_of moves_of
  moves_printed held e pad none =
      let b = unit_column (pads_of bytes) (pad - 1) in
      ap (λ (h : Outcome Packed). moves_by bytes h pad out) e
      ∙ ap change_text (solves true b ∙ sym (tested_none (moves_refusal bytes pad) refused (and_then (factors_in bytes) (λ p. solution_by true p b)) none))

-- ---- a file that is not refused
module _ (bytes : List ℕ) (taken : file_refusal bytes ≡ 0) where
  abbrev pads : ℕ
  pads = pads_of bytes

  abbrev matrix : Column
  matrix = matrix_of pads bytes

  abbrev good_file : Good pads matrix
  good_file = file_good bytes taken

  abbrev afresh : Factoring
  afresh = whole pads matrix good_file

  afresh_held : held_in afresh ≡ factors_in bytes
  unfolding factors_in factors_of
  afresh_held = sym (tested_none (file_refusal bytes) refused (factors_of matrix pads) taken)

  -- what answers as factoring afresh does, and is the same where that is accepted, holds the file's factors
  same_held : (o : Factoring) → o.answer ≡ afresh.answer → (number_of afresh.answer ≡ 0 → o ≡ afresh) → held_in o ≡ factors_in bytes
  same_held o answers same = go afresh.answer refl
    where
      go : (x : Outcome Record) → afresh.answer ≡ x → held_in o ≡ factors_in bytes
      go (done told) e = ap held_in (same (ap number_of e)) ∙ afresh_held
      go (refused k) e = held_refused o k (answers ∙ e) ∙ sym (held_refused afresh k e) ∙ afresh_held

  -- THEOREM. What was reached by an accepted factoring and any mix of accepted adds and removes that ends at the file's columns is the file's factors.
  pub factors_reached : (r : Record) (o : Factoring) → Reached pads pads matrix r o → held_in o ≡ factors_in bytes
  factors_reached r o how =
      let is = (reached pads pads matrix r o how).1 matrix (replicate 128 0) good_file.size (length-replicate {A = ℕ} 128 0) in
      same_held o (ap (λ (q : Factoring). q.answer) (sym is)) (λ _. sym is)

  -- THEOREM. The last pad added to whatever was reached with the columns of the others comes to the file's factors, the refusal too.
  pub factors_added : (r : Record) (o : Factoring) → Reached pads (pads - 1) (older_columns bytes) r o → (z : Column) → length z ≡ pads
      → held_in (adding (o.left.factors ++ z) (last_column bytes) o.left.store r) ≡ factors_in bytes
  factors_added r o how z lz =
      let long = whole_long pads matrix good_file in
      let both = adding_reached pads (pads - 1) (older_columns bytes) (last_column bytes) z r o how lz matrix (replicate 128 0) long
      (length-replicate {A = ℕ} 128 0) in
      let is = whole_parts pads matrix good_file in
      same_held _ (both.0 ∙ ap (λ (q : Factoring). q.answer) is) (λ h. both.1 (ap (λ (q : Factoring). number_of q.answer) is ∙ h) ∙ is)

  -- THEOREM. Factoring all columns but the last and adding the last comes to the file's factors, the refusals too.
  pub factors_by_adding : (older z : Column) (store : List ℕ) → length older ≡ (pads - 1) * pads → length store ≡ 128 → length z ≡ pads
      → by_adding bytes older store z ≡ factors_in bytes
  factors_by_adding older z store lo ls lz = go f.answer refl
    where
      f : Factoring
      f = factoring (older_columns bytes) pads (pads - 1) older store

      from : Outcome Record → Outcome Packed
      from x = and_then (and_then x (λ told. done (packed f.left.factors f.left.store told)))
          (λ p. held_in (adding (p.factors ++ z) (last_column bytes) p.swaps p.told))

      go : (x : Outcome Record) → f.answer ≡ x → from f.answer ≡ factors_in bytes
      go (done told) e = ap from e ∙ factors_added told f (fresh (pads - 1) (older_columns bytes) older store told e) z lz
      go (refused k) e =
          let all = older_refused pads matrix good_file older store lo ls k e in
          ap from e ∙ sym (held_refused afresh k all) ∙ afresh_held

  -- THEOREM. Where that adding is refused, so is the file, with the same number.
  pub refused_added : (r : Record) (o : Factoring) → Reached pads (pads - 1) (older_columns bytes) r o → (z : Column) → length z ≡ pads → (k : ℕ)
      → (adding (o.left.factors ++ z) (last_column bytes) o.left.store r).answer ≡ refused k → text_of bytes ≡ refused_text k
  unfolding text_of order_text loads_of
  refused_added r o how z lz k e =
      ap (λ (h : Outcome Packed). order_text pads (and_then h (λ f. solution_by false f (readings_of pads bytes))))
      (sym (factors_added r o how z lz) ∙ held_refused (adding (o.left.factors ++ z) (last_column bytes) o.left.store r) k e)

  -- a pad of the crossing is not refused
  pad_taken : (pad : ℕ) → 1 ≤ pad → pad ≤ pads → moves_refusal bytes pad ≡ 0
  unfolding moves_refusal file_refusal first_holding
  pad_taken pad least most =
      first_behind (file_tests true bytes) ((1, no_pad pads pad) ∷ []) (file_numbered true bytes)
      ∙ tested_none (file_refusal bytes) (λ k. k) (first_holding ((1, no_pad pads pad) ∷ [])) taken
      ∙ rw (ne_eqb pad 0 (λ e. omega (arith, e)), le-ltb pads pad most)

  -- ---- what is printed; `out` is lent for the solve, and `ranks` for the ranking
  module _ (out : Column) (ranks : List ℕ) (fits : length out ≡ pads) (room : length ranks ≡ pads) where
    -- THEOREM. The sheet after a pad is added. Factoring all columns of the file's matrix but the last, adding the last, solving for the readings and ranking
    -- prints exactly the sheet that `panel_order` prints of the file: the same order and loads, bit for bit, or the same refusal.
    pub sheet_by_adding : (older z : Column) (store : List ℕ) → length older ≡ (pads - 1) * pads → length store ≡ 128 → length z ≡ pads
        → sheet_by bytes (by_adding bytes older store z) out ranks ≡ text_of bytes
    sheet_by_adding older z store lo ls lz = sheet_printed bytes out fits ranks room _ (factors_by_adding older z store lo ls lz)

    -- THEOREM. The same where the last pad is added to whatever was reached with the columns of the others.
    pub sheet_added : (r : Record) (o : Factoring) → Reached pads (pads - 1) (older_columns bytes) r o → (z : Column) → length z ≡ pads
        → sheet_by bytes (held_in (adding (o.left.factors ++ z) (last_column bytes) o.left.store r)) out ranks ≡ text_of bytes
    sheet_added r o how z lz = sheet_printed bytes out fits ranks room _ (factors_added r o how z lz)

    -- THEOREM. The same after any mix of adds and removes that ends at the file's columns.
    pub sheet_reached : (r : Record) (o : Factoring) → Reached pads pads matrix r o → sheet_by bytes (held_in o) out ranks ≡ text_of bytes
    sheet_reached r o how = sheet_printed bytes out fits ranks room (held_in o) (factors_reached r o how)

  -- ---- how a pad's load moves with each reading
  module _ (out : Column) (fits : length out ≡ pads) (pad : ℕ) (least : 1 ≤ pad) (most : pad ≤ pads) where
    -- THEOREM. The transposed solve by the factors after the last pad is added prints what `panel_moves` prints of the file and the pad.
    pub moves_by_adding : (older z : Column) (store : List ℕ) → length older ≡ (pads - 1) * pads → length store ≡ 128 → length z ≡ pads
        → moves_by bytes (by_adding bytes older store z) pad out ≡ moves_text_of bytes pad
    moves_by_adding older z store lo ls lz = moves_printed bytes out fits _ (factors_by_adding older z store lo ls lz) pad (pad_taken pad least most)

    -- THEOREM. The same after any mix of adds and removes that ends at the file's columns.
    pub moves_reached : (r : Record) (o : Factoring) → Reached pads pads matrix r o → moves_by bytes (held_in o) pad out ≡ moves_text_of bytes pad
    moves_reached r o how = moves_printed bytes out fits (held_in o) (factors_reached r o how) pad (pad_taken pad least most)
