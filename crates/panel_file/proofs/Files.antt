-- The file of a crossing: no two crossings have the same, and a crossing has no two. Of a file that the reader takes it gives the crossing, and it takes
-- every file of a crossing within the limits. By the numbers' bits, which eight bytes hold one to one. Assumes nothing.
use mathlib.Core.Path.{◌≡◌, refl, sym, ap, ap₂, ◌∙◌}
use mathlib.Core.Bool.{true, ◌&&◌}
use mathlib.Core.List.{List, ◌++◌}
use Prim.Native.Nat.{ℕ, zero, suc, ◌+◌, ◌-◌, ◌*◌, ◌/◌, ◌%◌, ◌^◌, ◌≤◌, ◌<◌}
use native.Mathlib.Nat.{zero-add}
use native.Mathlib.Omega.{arith}
use borrow.Author.Tests.{ltb-true, ltb-false, eqb-true}
use lib.Dec.{ltb, leb, eqb}
use lib.ListN.{length, get_or, take, drop, length-append, length-drop, get_or-append}
use lib.Seq.{length-take-le, ext_get_or, get_or-append-add, get_or-take, get_or-drop}
use lib.Ieee.{nan, binary64, of_bits, to_bits}
use lib.Ieee.Bits.{to_bits-of_bits}
use lib.Ieee.Scale.{finite}
use Rattle.numbers.specs.Column.{Column, entry}
use Rattle.finite.specs.Finite.{all_finite}
use Rattle.numbers.proofs.Each.{length_list, list_at}
use Rattle.finite.proofs.Finite.{finite_append}
use Rattle.numbers.proofs.Choice.{and_both, and_first, and_second, test_cases}
use Rattle.refusals.specs.Outcome.{done, number_of, Call, leaving}
use Rattle.refusals.proofs.Outcomes.{tested_none, none_given}
use Rattle.panel_file.specs.File.{little_endian, field_at, headed, pads_of, file_length, number_at, numbers_of, matrix_of, readings_of, AllBytes, IsFile}
use Rattle.panel_file.specs.Reading.{Stores, stores, stores_fit, reading_refusal, reading}
use Rattle.panel_file.proofs.Bits.{field_two, each_part, little_below, little_same, no_nan}
use Rattle.panel_file.proofs.Numbers.{number_finite}
use Rattle.panel_file.proofs.Reading.{no_refusal, reader_whole}

-- ---- two crossings never share a file
pub record Same (n n' : ℕ) (matrix matrix' readings readings' : Column) : Type 0 where
  pub size : n ≡ n'
  pub matrix_same : matrix ≡ matrix'
  pub readings_same : readings ≡ readings'

pub one_crossing : (bytes : List ℕ) (n n' : ℕ) (m m' r r' : Column) → IsFile bytes n m r → IsFile bytes n' m' r' → Same n n' m m' r r'
one_crossing bytes n n' m m' r r' p q =
    let e : n ≡ n' = sym p.pads ∙ q.pads in
    record {
      size = e;
      matrix_same = sym p.matrix_read ∙ ap (λ (k : ℕ). matrix_of k bytes) e ∙ q.matrix_read;
      readings_same = sym p.readings_read ∙ ap (λ (k : ℕ). readings_of k bytes) e ∙ q.readings_read;
    }

-- ---- a crossing has one file

-- a finite number has its bits alone
bits_same : (a b : ℕ) → a < 256 ^ 8 → b < 256 ^ 8 → finite (of_bits binary64 a) ≡ true → of_bits binary64 a ≡ of_bits binary64 b → a ≡ b
bits_same a b h k f e =
    let g : finite (of_bits binary64 b) ≡ true = ap finite (sym e) ∙ f in
    sym (to_bits-of_bits binary64 a h (no_nan _ f)) ∙ ap (to_bits binary64) e ∙ to_bits-of_bits binary64 b k (no_nan _ g)

-- all numbers of a file, the matrix before the readings
pub numbers_parts : (n : ℕ) (bytes : List ℕ) → numbers_of n bytes ≡ matrix_of n bytes ++ readings_of n bytes
numbers_parts n bytes = ext_get_or nan (numbers_of n bytes) (m ++ r) (length_list _ _ ∙ sym (length-append m r ∙ ap₂ (λ (x y : ℕ). x + y) lm lr)) same
  where
    m : Column
    m = matrix_of n bytes

    r : Column
    r = readings_of n bytes

    lm : length m ≡ n * n
    lm = length_list (n * n) (λ k. number_at bytes (0 + k))

    lr : length r ≡ n
    lr = length_list n (λ k. number_at bytes (n * n + k))

    same : (i : ℕ) → i < length (numbers_of n bytes) → entry (numbers_of n bytes) i ≡ entry (m ++ r) i
    same i h =
        let l : length (numbers_of n bytes) ≡ n * n + n = length_list _ _ in
        list_at (n * n + n) (number_at bytes) i nan (omega arith) ∙ test_cases (ltb i (n * n)) (λ t. in_matrix (ltb-true _ _ t))
        (λ t. in_readings (ltb-false _ _ t) (omega arith))
      where
        in_matrix : i < n * n → number_at bytes i ≡ entry (m ++ r) i
        in_matrix k =
            ap (number_at bytes) (sym (zero-add i)) ∙ sym (list_at (n * n) (λ k. number_at bytes (0 + k)) i nan k)
            ∙ sym (get_or-append m r nan i (omega (arith, lm)))

        in_readings : n * n ≤ i → i < n * n + n → number_at bytes i ≡ entry (m ++ r) i
        in_readings k u =
            let j = i - n * n in
            let place : n * n + j ≡ i = omega arith in
            let there : length m + j ≡ i = omega (arith, lm) in
            ap (number_at bytes) (sym place) ∙ sym (list_at n (λ k. number_at bytes (n * n + k)) j nan (omega arith)) ∙ sym (get_or-append-add m r j nan)
            ∙ ap (entry (m ++ r)) there

module _ (bytes : List ℕ) (n : ℕ) (m r : Column) (p : IsFile bytes n m r) where
  -- the crossing's numbers in a row
  numbers_are : numbers_of n bytes ≡ m ++ r
  numbers_are = numbers_parts n bytes ∙ ap₂ (λ (x y : Column). x ++ y) p.matrix_read p.readings_read

  pub numbers_finite : all_finite m ≡ true → all_finite r ≡ true → all_finite (numbers_of n bytes) ≡ true
  numbers_finite fm fr = ap all_finite numbers_are ∙ finite_append m r ∙ and_both _ _ fm fr

  -- the head byte by byte
  record Head : Type 0 where
    pub b0 : get_or bytes 0 0 ≡ 76
    pub b1 : get_or bytes 1 0 ≡ 88
    pub b2 : get_or bytes 2 0 ≡ 80
    pub b3 : get_or bytes 3 0 ≡ 1
    pub b4 : get_or bytes 4 0 ≡ 0

  head_bytes : Head
  unfolding headed
  head_bytes =
      let long : 6 ≤ length bytes = omega (arith, p.whole) in
      let l = leb 6 (length bytes) in
      let t0 = eqb (get_or bytes 0 0) 76 in
      let t1 = eqb (get_or bytes 1 0) 88 in
      let t2 = eqb (get_or bytes 2 0) 80 in
      let t3 = eqb (field_at 2 bytes 3) 1 in
      let all : (t0 && t1 && t2 && t3) ≡ true = and_second l (t0 && t1 && t2 && t3) p.head in
      let three : (t0 && t1 && t2) ≡ true = and_first (t0 && t1 && t2) t3 all in
      let two : (t0 && t1) ≡ true = and_first (t0 && t1) t2 three in
      let version : field_at 2 bytes 3 ≡ 1 = eqb-true _ _ (and_second (t0 && t1 && t2) t3 all) in
      record {
        b0 = eqb-true _ _ (and_first t0 t1 two);
        b1 = eqb-true _ _ (and_second t0 t1 two);
        b2 = eqb-true _ _ (and_second (t0 && t1) t2 three);
        b3 = omega (arith, field_two bytes long, p.each_byte 3);
        b4 = omega (arith, field_two bytes long, p.each_byte 3);
      }

module _ (b c : List ℕ) (n : ℕ) (m r : Column) (p : IsFile b n m r) (q : IsFile c n m r) where
  head_same : (i : ℕ) → i < 6 → get_or b i 0 ≡ get_or c i 0
  head_same i h = go i h
    where
      x : Head b n m r p
      x = head_bytes b n m r p

      y : Head c n m r q
      y = head_bytes c n m r q

      go : (i : ℕ) → i < 6 → get_or b i 0 ≡ get_or c i 0
      go zero h = x.b0 ∙ sym y.b0
      go (suc zero) h = x.b1 ∙ sym y.b1
      go (suc (suc zero)) h = x.b2 ∙ sym y.b2
      go (suc (suc (suc zero))) h = x.b3 ∙ sym y.b3
      go (suc (suc (suc (suc zero)))) h = x.b4 ∙ sym y.b4
      go (suc (suc (suc (suc (suc zero))))) h = p.pads ∙ sym q.pads
      go (suc (suc (suc (suc (suc (suc i)))))) h = absurd (omega arith)

  -- the eight bytes of number k
  eight_same : all_finite m ≡ true → all_finite r ≡ true → (k : ℕ) → k < n * n + n → take 8 (drop (6 + 8 * k) b) ≡ take 8 (drop (6 + 8 * k) c)
  unfolding number_at field_at
  eight_same fm fr k h =
      let at = 6 + 8 * k in
      let lb : length (take 8 (drop at b)) ≡ 8 = length-take-le 8 (drop at b) (rw (length-drop at b) (omega (arith, p.whole))) in
      let lc : length (take 8 (drop at c)) ≡ 8 = length-take-le 8 (drop at c) (rw (length-drop at c) (omega (arith, q.whole))) in
      let eb = each_part 8 at b p.each_byte in
      let ec = each_part 8 at c q.each_byte in
      let below-b : little_endian (take 8 (drop at b)) < 256 ^ 8 = rw lb at (little_below (take 8 (drop at b)) eb) in
      let below-c : little_endian (take 8 (drop at c)) < 256 ^ 8 = rw lc at (little_below (take 8 (drop at c)) ec) in
      let number : number_at b k ≡ number_at c k =
      sym (list_at (n * n + n) (number_at b) k nan h) ∙ ap (λ (l : Column). entry l k) (numbers_are b n m r p ∙ sym (numbers_are c n m r q))
      ∙ list_at (n * n + n) (number_at c) k nan h in
      little_same _ _ (lb ∙ sym lc) eb ec (bits_same _ _ below-b below-c (number_finite b (n * n + n) (numbers_finite b n m r p fm fr) k h) number)

  pub only_file : all_finite m ≡ true → all_finite r ≡ true → b ≡ c
  only_file fm fr =
      ext_get_or 0 b c (p.whole ∙ sym q.whole) (λ i h. test_cases (ltb i 6) (λ t. head_same i (ltb-true _ _ t)) (λ t. behind i h (ltb-false _ _ t)))
    where
      behind : (i : ℕ) → i < length b → 6 ≤ i → get_or b i 0 ≡ get_or c i 0
      behind i h l =
          let k = (i - 6) / 8 in
          let j = (i - 6) % 8 in
          let place : 6 + 8 * k + j ≡ i = omega arith in
          let small : j < 8 = omega arith in
          let here : (s : List ℕ) → get_or (take 8 (drop (6 + 8 * k) s)) j 0 ≡ get_or s i 0 =
          λ s. get_or-take 8 (drop (6 + 8 * k) s) j 0 small ∙ get_or-drop (6 + 8 * k) s j 0 ∙ ap (λ (x : ℕ). get_or s x 0) place in
          sym (here b) ∙ ap (λ (s : List ℕ). get_or s j 0) (eight_same fm fr k (omega (arith, p.whole))) ∙ here c

-- ---- what the reader makes of a file

-- the outcome of a file of n pads, in the stores s
abbrev pub read_as : ℕ → Column → Column → Stores → Call ℕ Stores
read_as n m r s = record { answer = done n; left = stores (m ++ drop (n * n) s.matrix) (r ++ drop n s.readings) }

pub reading_is : (bytes : List ℕ) (s : Stores) → reading_refusal bytes s ≡ 0
    → reading bytes s ≡ read_as (pads_of bytes) (matrix_of (pads_of bytes) bytes) (readings_of (pads_of bytes) bytes) s
unfolding reading
reading_is bytes s e = tested_none (reading_refusal bytes s) (leaving s) _ e

pub taken : (bytes : List ℕ) (s : Stores) → number_of (reading bytes s).answer ≡ 0 → reading_refusal bytes s ≡ 0
unfolding reading
taken bytes s = none_given (reading_refusal bytes s) s _

pub file_read : (bytes : List ℕ) (n : ℕ) (m r : Column) (s : Stores) → IsFile bytes n m r → 1 ≤ n → n ≤ 64 → all_finite m ≡ true → all_finite r ≡ true
    → stores_fit s ≡ true → reading bytes s ≡ read_as n m r s
file_read bytes n m r s p low high fm fr fit = reading_is bytes s none ∙ rw (p.pads, p.matrix_read, p.readings_read)
  where
    finite_all : all_finite (numbers_of (pads_of bytes) bytes) ≡ true
    finite_all = ap (λ (k : ℕ). all_finite (numbers_of k bytes)) p.pads ∙ numbers_finite bytes n m r p fm fr

    none : reading_refusal bytes s ≡ 0
    none =
        no_refusal bytes s fit
        (record {
          is_headed = p.head;
          size = rw p.pads (record { at_least = low; at_most = high });
          fits = refl;
          file_length_lem = p.whole ∙ ap file_length (sym p.pads);
          numbers = finite_all;
        })

-- a file that the reader takes is the file of what was read
pub read_file : (bytes : List ℕ) (s : Stores) → AllBytes bytes → reading_refusal bytes s ≡ 0
    → IsFile bytes (pads_of bytes) (matrix_of (pads_of bytes) bytes) (readings_of (pads_of bytes) bytes)
read_file bytes s each e =
    let w = reader_whole bytes s e in
    record { each_byte = each; head = w.is_headed; pads = refl; whole = w.file_length_lem; matrix_read = refl; readings_read = refl }
