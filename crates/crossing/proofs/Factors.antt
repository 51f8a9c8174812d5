-- A file's matrix as the code puts it together: read, then factored in front of its store; and what a caller knows by the case of the answer. By the
-- outcomes of the two calls. Assumes nothing.
use mathlib.Core.Path.{◌≡◌, sym, ap, ap₂, ◌∙◌}
use mathlib.Core.List.{List, ◌++◌}
use Prim.Native.Nat.{ℕ, ◌+◌, ◌*◌, ◌≤◌}
use native.Mathlib.Omega.{arith}
use borrow.Author.Tests.{eq-eqb, ne_eqb}
use lib.ListN.{length, take, drop, replicate, length-append, length-drop, length-replicate, take-append-drop}
use lib.Seq.{length-take-le, take_at, drop_at}
use Rattle.numbers.specs.Numbers.{zero64}
use Rattle.numbers.specs.Column.{Column, zeros}
use Rattle.finite.specs.Finite.{all_finite}
use Rattle.numbers.proofs.Each.{length_list}
use Rattle.finite.proofs.Finite.{finite_append}
use Rattle.numbers.proofs.Choice.{and_both, and_first}
use Rattle.std.proofs.Common.{Result, Ok, Err}
use Rattle.std.specs.Result.{IsErrAnd}
use Rattle.refusals.specs.declared.Refusal.{Refusal}
use Rattle.refusals.specs.Outcome.{Outcome, done, refused, number, tested, and_then, Call, leaving}
use Rattle.refusals.proofs.Outcomes.{handed_on, tested_none, tested_some, tested_map}
use Rattle.factors.specs.declared.Record.{Record}
use Rattle.scaled_determinant.specs.declared.Scaled.{Scaled}
use Rattle.panel_file.specs.File.{pads_of, matrix_of, readings_of}
use Rattle.panel_file.specs.Reading.{file_refusal, Stores as Lent, stores as lent, filled, reading}
use Rattle.refusals.proofs.Cases.{done_same, never_both, tested_done, tested_refused, then_done, then_refused}
use Rattle.panel_file.proofs.Reading.{square, file_whole, file_among, reading_fit}
use Rattle.panel_file.proofs.Files.{numbers_parts}
use Rattle.lu.specs.declared.Factored.{Factored}
use Rattle.crossing.specs.Below.{Packed, packed_in, factors_of, toss_ups_of, scaled_by}
use Rattle.lu.specs.Factoring.{factored}
use Rattle.crossing.specs.Factors.{factors_in, toss_ups_in, tosses_given, stiffness, settled_in, fronted, swaps_left, Stores, stores, holding}
use Rattle.crossing.proofs.Below.{Good, factored_rows, factored_seven, factored_settled}

pub taken_count : {A : Type 0} (k : ℕ) (s : List A) → k ≤ length s → k ≡ length (take k s)
taken_count k s h = sym (length-take-le k s h)

-- a refusal that is not 7 leaves the slice as it was
pub fronted_kept : (n k : ℕ) (was : Column) → (k ≡ 7 → ⊥) → was ≡ fronted n (refused k) was
unfolding settled_in
fronted_kept n k was h = rw (ne_eqb k 7 h) (sym (take-append-drop n was))

-- a file of k pads that was read into stores, which held `matrix` and `readings`, and hold M and R: its matrix is in front
pub record Read (bytes : List ℕ) (matrix readings M R : Column) (k : ℕ) : Type 0 where
  pub none : file_refusal bytes ≡ 0
  pub pads : k ≡ pads_of bytes
  pub entries : k * k ≤ 4096
  pub good : Good k (take (k * k) M)
  pub is_matrix_lem : take (k * k) M ≡ matrix_of (pads_of bytes) bytes
  pub rest : drop (k * k) M ≡ drop (pads_of bytes * pads_of bytes) matrix
  pub is_readings : R ≡ readings_of (pads_of bytes) bytes ++ drop (pads_of bytes) readings

-- a file whose factors and readings stand in front of their stores, M and R, with their swap store
pub record Ready (bytes : List ℕ) (M R : Column) (swaps : List ℕ) (told : Record) : Type 0 where
  pub factors : factors_in bytes ≡ done (packed_in M swaps told)
  pub pads : told.rows ≡ pads_of bytes
  pub least : 1 ≤ told.rows
  pub most : told.rows ≤ 64
  pub is_readings : take told.rows R ≡ readings_of (pads_of bytes) bytes

module _ (bytes : List ℕ) where
  abbrev n : ℕ
  n = pads_of bytes

  -- ---- a file that is not refused

  pub file_good : file_refusal bytes ≡ 0 → Good n (matrix_of n bytes)
  file_good z =
      let w = file_whole bytes z in
      record {
        least = w.size.at_least;
        most = w.size.at_most;
        size = length_list (n * n) _;
        finite = and_first (all_finite (matrix_of n bytes)) _ (sym (finite_append (matrix_of n bytes) (readings_of n bytes))
            ∙ ap all_finite (sym (numbers_parts n bytes)) ∙ w.numbers);
      }

  not_seven : file_refusal bytes ≡ 7 → ⊥
  not_seven =
      file_among bytes (λ k. k ≡ 7 → ⊥) (λ z. omega (arith, z)) (λ z. omega (arith, z)) (λ z. omega (arith, z)) (λ z. omega (arith, z)) (λ z. omega (arith, z))

  factors_good : file_refusal bytes ≡ 0 → factors_in bytes ≡ factors_of (matrix_of n bytes) n
  unfolding factors_in
  factors_good z = tested_none (file_refusal bytes) refused (factors_of (matrix_of n bytes) n) z

  factors_refused : (file_refusal bytes ≡ 0 → ⊥) → factors_in bytes ≡ refused (file_refusal bytes)
  unfolding factors_in
  factors_refused h = tested_some (file_refusal bytes) refused (factors_of (matrix_of n bytes) n) h

  -- ---- read into the stores, then factored there
  module _ (matrix readings : Column) (swaps : List ℕ) (lm : length matrix ≡ 4096) (lr : length readings ≡ 64) where
    abbrev ready : Call ℕ Lent
    ready = record { answer = done n; left = filled bytes (lent matrix readings) }

    read_is : reading bytes (lent matrix readings) ≡ tested (file_refusal bytes) (leaving (lent matrix readings)) ready
    read_is = reading_fit bytes (lent matrix readings) (and_both _ _ (eq-eqb _ _ lm) (eq-eqb _ _ lr))

    module _ (M R : Column) (em : M ≡ (reading bytes (lent matrix readings)).left.matrix) (er : R ≡ (reading bytes (lent matrix readings)).left.readings) where
      read_told : (o : Outcome ℕ) → o ≡ (reading bytes (lent matrix readings)).answer → o ≡ tested (file_refusal bytes) refused (done n)
      read_told o m =
          m ∙ ap (λ (c : Call ℕ Lent). c.answer) read_is
          ∙ tested_map (λ (c : Call ℕ Lent). c.answer) (file_refusal bytes) (leaving (lent matrix readings)) ready

      pub file_read : (k : ℕ) → done k ≡ (reading bytes (lent matrix readings)).answer → Read bytes matrix readings M R k
      file_read k t =
          let told = tested_done (file_refusal bytes) (done n) k (sym (read_told (done k) t)) in
          let same : k ≡ n = done_same k n (sym told.1) in
          let is = read_is ∙ tested_none (file_refusal bytes) (leaving (lent matrix readings)) ready told.0 in
          let whole : M ≡ matrix_of n bytes ++ drop (n * n) matrix = em ∙ ap (λ (o : Call ℕ Lent). o.left.matrix) is in
          let count : length (matrix_of n bytes) ≡ n * n = length_list (n * n) _ in
          let front : take (n * n) M ≡ matrix_of n bytes = ap (take (n * n)) whole ∙ take_at (matrix_of n bytes) (drop (n * n) matrix) (n * n) count in
          let g = file_good told.0 in
          record {
            none = told.0;
            pads = same;
            entries = rw same (square n 64 g.most);
            good = rw (same, front) g;
            is_matrix_lem = rw same front;
            rest = rw same (ap (drop (n * n)) whole ∙ drop_at (matrix_of n bytes) (drop (n * n) matrix) (n * n) count);
            is_readings = er ∙ ap (λ (o : Call ℕ Lent). o.left.readings) is;
          }

      pub held_refused : (r : Refusal) (answer : Result Factored Refusal) → refused (number r) ≡ (reading bytes (lent matrix readings)).answer
          → IsErrAnd answer (λ e. e ≡ r)
          → (factored answer ≡ (holding bytes (stores matrix readings swaps)).answer)
          × (stores M R swaps ≡ (holding bytes (stores matrix readings swaps)).left)
      unfolding holding swaps_left
      held_refused r answer t h =
          tested_refused (file_refusal bytes) (done n) (number r) (sym (read_told (refused (number r)) t)) (λ z e. never_both n (number r) e)
          (λ some e.
          let is = read_is ∙ tested_some (file_refusal bytes) (leaving (lent matrix readings)) ready some in
          rw (
            handed_on r answer h,
            factors_refused some,
            tested_some (file_refusal bytes) (λ _. readings) (readings_of n bytes ++ drop n readings) some,
            ne_eqb (file_refusal bytes) 7 not_seven,
          ) (
            ap refused (sym e),
            (λ i. stores ((em ∙ ap (λ (o : Call ℕ Lent). o.left.matrix) is ∙ fronted_kept (n * n) (file_refusal bytes) matrix not_seven) i)
                ((er ∙ ap (λ (o : Call ℕ Lent). o.left.readings) is) i) swaps),
          ))

    pub held_read : (M R : Column) (k : ℕ) → Read bytes matrix readings M R k → (held : Result Factored Refusal) (A : Column) (S : List ℕ)
        → factored held ≡ and_then (factors_of (take (k * k) M) k) (λ p. done (p.told, toss_ups_of (take (k * k) M) k))
        → A ≡ settled_in (and_then (factors_of (take (k * k) M) k) (λ p. done p.factors)) (take (k * k) M)
        → S ≡ swaps_left (factors_of (take (k * k) M) k) swaps
        → (factored held ≡ (holding bytes (stores matrix readings swaps)).answer)
        × (stores (A ++ drop (k * k) M) R S ≡ (holding bytes (stores matrix readings swaps)).left)
    unfolding holding
    held_read M R k w held A S h a s =
        let same : factors_of (take (k * k) M) k ≡ factors_of (matrix_of n bytes) n = ap₂ factors_of w.is_matrix_lem w.pads in
        let all = same ∙ sym (factors_good w.none) in
        let sized : length (take (k * k) M) ≡ length (take (n * n) matrix) =
        w.good.size ∙ ap (λ (j : ℕ). j * j) w.pads ∙ taken_count (n * n) matrix (rw lm (rw w.pads at w.entries)) in
        let front : A ≡ settled_in (and_then (factors_in bytes) (λ p. done p.factors)) (take (n * n) matrix) =
        a ∙ ap (λ (o : Outcome Packed). settled_in (and_then o (λ p. done p.factors)) (take (k * k) M)) same
        ∙ factored_settled n (matrix_of n bytes) (file_good w.none) (take (k * k) M) (take (n * n) matrix) sized
        ∙ ap (λ (o : Outcome Packed). settled_in (and_then o (λ p. done p.factors)) (take (n * n) matrix)) (sym (factors_good w.none)) in
        let read : R ≡ tested (file_refusal bytes) (λ _. readings) (readings_of n bytes ++ drop n readings) =
        w.is_readings ∙ sym (tested_none (file_refusal bytes) (λ _. readings) (readings_of n bytes ++ drop n readings) w.none) in
        let swapped : S ≡ swaps_left (factors_in bytes) swaps = s ∙ ap (λ (o : Outcome Packed). swaps_left o swaps) all in
        let tossed : toss_ups_of (take (k * k) M) k ≡ toss_ups_in bytes = ap₂ toss_ups_of w.is_matrix_lem w.pads in
        (h ∙ ap₂ (λ (o : Outcome Packed) (t : ℕ). and_then o (λ p. done (p.told, t))) all tossed, (λ i. stores (front i ++ w.rest i) (read i) (swapped i)))

    -- ---- what a caller knows
    module _ (held : Result Factored Refusal) (M R : Column) (S : List ℕ) (h : factored held ≡ (holding bytes (stores matrix readings swaps)).answer)
        (l : stores M R S ≡ (holding bytes (stores matrix readings swaps)).left) where
      ready_by : (told : Record) (p : Packed) → factors_in bytes ≡ done p → p.told ≡ told → length M ≡ 4096 → Ready bytes M R S told
      unfolding holding factors_in settled_in swaps_left
      ready_by told p e d count =
          let passed = tested_done (file_refusal bytes) (factors_of (matrix_of n bytes) n) p e in
          let g = file_good passed.0 in
          let rows : told.rows ≡ n = ap (λ (r : Record). r.rows) (sym d) ∙ factored_rows n (matrix_of n bytes) g p passed.1 in
          let matrix-left : M ≡ p.factors ++ drop (n * n) matrix =
          ap (λ (s : Stores). s.matrix) l ∙ ap (λ (o : Outcome Packed). fronted (n * n) (and_then o (λ q. done q.factors)) matrix) e in
          let swaps-left : S ≡ p.swaps = ap (λ (s : Stores). s.swaps) l ∙ ap (λ (o : Outcome Packed). swaps_left o swaps) e in
          let readings-left : R ≡ readings_of n bytes ++ drop n readings =
          ap (λ (s : Stores). s.readings) l ∙ tested_none (file_refusal bytes) (λ _. readings) (readings_of n bytes ++ drop n readings) passed.0 in
          let lengths : length M ≡ length p.factors + length (drop (n * n) matrix) =
          ap length matrix-left ∙ length-append p.factors (drop (n * n) matrix) in
          let size : length p.factors ≡ n * n = omega (arith, square n 64 g.most, length-drop (n * n) matrix) in
          let front : take (told.rows * told.rows) M ≡ p.factors =
          ap (λ (k : ℕ). take (k * k) M) rows ∙ ap (take (n * n)) matrix-left ∙ take_at p.factors (drop (n * n) matrix) (n * n) size in
          record {
            factors = e ∙ (λ i. done (record { told = d i; factors = sym front i; swaps = sym swaps-left i }));
            pads = rows;
            least = rw rows g.least;
            most = rw rows g.most;
            is_readings = ap (λ (k : ℕ). take k R) rows ∙ ap (take n) readings-left ∙ take_at (readings_of n bytes) (drop n readings) n (length_list n _);
          }

      held_factors : (f : Factored) → held ≡ Ok f → length M ≡ 4096 → Ready bytes M R S f.told × (f.toss_ups ≡ toss_ups_in bytes)
      unfolding holding
      held_factors f t count =
          then_done (factors_in bytes) (λ p. done (p.told, toss_ups_in bytes)) (f.told, f.toss_ups) (sym h ∙ ap factored t)
          (λ p e d.
          let same = done_same (p.told, toss_ups_in bytes) (f.told, f.toss_ups) d in
          (ready_by f.told p e (ap (λ (x : Record × ℕ). x.0) same) count, sym (ap (λ (x : Record × ℕ). x.1) same)))

      not_held : (r : Refusal) → held ≡ Err r → factors_in bytes ≡ refused (number r)
      unfolding holding
      not_held r t =
          then_refused (factors_in bytes) (λ p. done (p.told, toss_ups_in bytes)) (number r) (sym h ∙ ap factored t) (λ e. e)
          (λ p e d. never_both (p.told, toss_ups_in bytes) (number r) d)

  -- what `factor_file` ensures where its stores held zeros
  abbrev pub Filed : Result Factored Refusal → Column → Column → List ℕ → Type 0
  Filed held M R S =
      (factored held ≡ (holding bytes (stores (zeros 4096) (zeros 64) (replicate 128 0))).answer)
      × ((stores M R S ≡ (holding bytes (stores (zeros 4096) (zeros 64) (replicate 128 0))).left)
      × ((length M ≡ 4096) × (length R ≡ 64) × (length S ≡ 128)))

  module _ (held : Result Factored Refusal) (M R : Column) (S : List ℕ) (e : Filed held M R S) where
    filed : (f : Factored) → held ≡ Ok f → Ready bytes M R S f.told × (f.toss_ups ≡ toss_ups_in bytes)
    filed f t =
        held_factors (zeros 4096) (zeros 64) (replicate 128 0) (length-replicate 4096 zero64) (length-replicate 64 zero64) held M R S e.0 e.1.0
        f t e.1.1.0

    pub filed_ready : (f : Factored) → held ≡ Ok f → Ready bytes M R S f.told
    filed_ready f t = (filed f t).0

    pub filed_tossed : (f : Factored) → held ≡ Ok f → f.toss_ups ≡ toss_ups_in bytes
    filed_tossed f t = (filed f t).1

    pub filed_refused : (r : Refusal) → held ≡ Err r → factors_in bytes ≡ refused (number r)
    filed_refused r t =
        not_held (zeros 4096) (zeros 64) (replicate 128 0) (length-replicate 4096 zero64) (length-replicate 64 zero64) held M R S e.0 e.1.0 r t

  -- ---- a refusal's number has one digit; by 7 the file is one of at most 64 pads

  pub factors_few : (k : ℕ) → factors_in bytes ≡ refused k → k ≤ 9
  unfolding factors_in
  factors_few k e =
      tested_refused (file_refusal bytes) (factors_of (matrix_of n bytes) n) k e
      (λ z d. let seven = factored_seven n (matrix_of n bytes) (file_good z) k d in omega (arith, seven))
      (λ _ d. let few = file_among bytes (λ j. j ≤ 9) (omega arith) (omega arith) (omega arith) (omega arith) (omega arith) in omega (arith, few, d))

  pub factors_seven : (k : ℕ) → factors_in bytes ≡ refused k → k ≡ 7 → n ≤ 64
  unfolding factors_in
  factors_seven k e seven =
      tested_refused (file_refusal bytes) (factors_of (matrix_of n bytes) n) k e (λ z _. (file_good z).most) (λ _ d. absurd (not_seven (d ∙ seven)))

  pub factors_size : (p : Packed) → factors_in bytes ≡ done p → (1 ≤ n) × (n ≤ 64)
  unfolding factors_in
  factors_size p e =
      let g = file_good (tested_done (file_refusal bytes) (factors_of (matrix_of n bytes) n) p e).0 in
      (g.least, g.most)

  -- ---- the stiffness
  pub stiffness_held : (p : Packed) (o : Outcome Scaled) → factors_in bytes ≡ done p → o ≡ scaled_by p → o ≡ stiffness bytes
  unfolding stiffness
  stiffness_held p o e d = d ∙ ap (λ (q : Outcome Packed). and_then q scaled_by) (sym e)

  pub stiffness_refused : (k : ℕ) → factors_in bytes ≡ refused k → refused k ≡ stiffness bytes
  unfolding stiffness
  stiffness_refused k e = ap (λ (o : Outcome Packed). and_then o scaled_by) (sym e)

  pub tossed_held : (p : Packed) (tossed : ℕ) → factors_in bytes ≡ done p → tossed ≡ toss_ups_in bytes → tossed
      ≡ tosses_given (factors_in bytes) (toss_ups_in bytes)
  unfolding tosses_given
  tossed_held p tossed e t = t ∙ ap (λ (o : Outcome Packed). tosses_given o (toss_ups_in bytes)) (sym e)

  pub tossed_refused : (k : ℕ) → factors_in bytes ≡ refused k → 0 ≡ tosses_given (factors_in bytes) (toss_ups_in bytes)
  unfolding tosses_given
  tossed_refused k e = ap (λ (o : Outcome Packed). tosses_given o (toss_ups_in bytes)) (sym e)
