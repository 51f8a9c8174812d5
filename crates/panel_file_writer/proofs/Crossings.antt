-- Reader and writer over their own outcomes: the writer's contract admits one outcome only; what is written is read as the same; what was read is written as
-- the same bytes; two crossings never share a file. By the one file that a crossing has, and the one crossing that a file has. Assumes nothing.
use mathlib.Core.Path.{◌≡◌, sym, ap, ap₂, ◌∙◌, subst}
use mathlib.Core.Bool.{true, false, ◌&&◌}
use mathlib.Core.List.{List, ◌++◌}
use Prim.Native.Nat.{ℕ, ◌*◌, ◌≤◌}
use native.Mathlib.Omega.{arith}
use borrow.Author.Tests.{eqb-true, eqb-false}
use lib.Dec.{eqb}
use lib.ListN.{length, take, drop, take-append-drop}
use lib.Seq.{take_at}
use lib.IntN.{pos}
use lib.Ieee.{fin, size, binary64, to_bits}
use Rattle.numbers.specs.Column.{Column, entry}
use Rattle.finite.specs.Finite.{all_finite}
use Rattle.numbers.proofs.Each.{length_list}
use Rattle.finite.proofs.Finite.{finite_append}
use Rattle.numbers.proofs.Choice.{and_first, and_second, test_cases}
use Rattle.std.proofs.Common.{Ok}
use Rattle.refusals.specs.Outcome.{done, refused, number_of, tested, Call}
use Rattle.refusals.proofs.Outcomes.{tested_cases}
use Rattle.panel_file.specs.File.{pads_of, file_length, matrix_of, readings_of, AllBytes, IsFile}
use Rattle.panel_file.specs.Reading.{Stores, stores_fit, reading_refusal, reading}
use Rattle.panel_file.proofs.Reading.{reader_whole}
use Rattle.panel_file.proofs.Files.{Same, one_crossing, only_file, numbers_parts, read_as, reading_is, taken, file_read, read_file}
use Rattle.panel_file_writer.specs.Writing.{written, Writing}
use Rattle.panel_file_writer.proofs.Writing.{Fit, fit, not_refused, write_done}

-- an answer that is none of the tests' refusals has none by them
none_tested : (number count : ℕ) → number_of (tested number refused (done count)) ≡ 0 → number ≡ 0
none_tested number count = tested_cases number refused (done count) (λ o. number_of o ≡ 0 → number ≡ 0) (λ e h. e) (λ n h. h)

-- ---- an accepted outcome
module _ (n : ℕ) (m r : Column) (out : List ℕ) (made : Call ℕ (List ℕ)) (w : Writing n m r out made) (z : number_of made.answer ≡ 0) where
  fitting : Fit n m r (length out)
  fitting = fit n m r (length out) (none_tested _ (file_length n) (ap number_of (sym w.answers) ∙ z))

-- the contract admits one outcome only, and an outcome one answer (`Cases.one_answer` of refusals)
pub one_writing : (n : ℕ) (m r : Column) (out : List ℕ) (a b : Call ℕ (List ℕ)) → Writing n m r out a → Writing n m r out b → a ≡ b
one_writing n m r out a b v w =
    let left : a.left ≡ b.left = test_cases (eqb (number_of a.answer) 0) (λ e. accepts (eqb-true _ _ e)) (λ e. refuses (eqb-false _ _ e)) in
    (λ i. record { answer = same i; left = left i })
  where
    same : a.answer ≡ b.answer
    same = v.answers ∙ sym w.answers

    accepts : number_of a.answer ≡ 0 → a.left ≡ b.left
    accepts z =
        let y = ap number_of (sym same) ∙ z in
        let f = fitting n m r out a v z in
        let front = only_file (take (file_length n) a.left) (take (file_length n) b.left) n m r (v.file z) (w.file y) f.matrix_finite
        f.readings_finite in
        sym (take-append-drop (file_length n) a.left) ∙ ap₂ (λ (x y : List ℕ). x ++ y) front (v.rest z ∙ sym (w.rest y))
        ∙ take-append-drop (file_length n) b.left

    refuses : (number_of a.answer ≡ 0 → ⊥) → a.left ≡ b.left
    refuses h = v.as_it_was h ∙ sym (w.as_it_was (λ z. h (ap number_of same ∙ z)))

-- What is written is read as the same: size, matrix and readings, in any stores that fit.
pub written_read : (n : ℕ) (m r : Column) (out : List ℕ) (made : Call ℕ (List ℕ)) → Writing n m r out made → number_of made.answer ≡ 0
    → (s : Stores) → stores_fit s ≡ true → reading (take (file_length n) made.left) s ≡ read_as n m r s
written_read n m r out made w z s fits =
    let f = fitting n m r out made w z in
    file_read (take (file_length n) made.left) n m r s (w.file z) f.size.at_least f.size.at_most f.matrix_finite f.readings_finite fits

-- A file that the reader takes is written back as the same bytes: what was read into any stores, into any slice that has room.
pub read_written : (bytes : List ℕ) (s : Stores) → AllBytes bytes → (n : ℕ) → (reading bytes s).answer ≡ done n → (out : List ℕ) (made : Call ℕ (List ℕ))
    → length bytes ≤ length out → Writing n (take (n * n) (reading bytes s).left.matrix) (take n (reading bytes s).left.readings) out made
    → made ≡ record { answer = done (length bytes); left = bytes ++ drop (length bytes) out }
read_written bytes s each k told out made room w =
    let n = pads_of bytes in
    let m = matrix_of n bytes in
    let r = readings_of n bytes in
    let e : reading_refusal bytes s ≡ 0 = taken bytes s (ap number_of told) in
    let a = reader_whole bytes s e in
    let p : IsFile bytes n m r = read_file bytes s each e in
    let whole : length bytes ≡ file_length n = p.whole in
    let finite : (all_finite m && all_finite r) ≡ true = sym (finite_append m r) ∙ ap all_finite (sym (numbers_parts n bytes)) ∙ a.numbers in
    let f : Fit n m r (length out) = record {
      size = a.size;
      matrix_length = length_list _ _;
      readings_length = length_list _ _;
      fits = omega arith;
      matrix_finite = and_first (all_finite m) (all_finite r) finite;
      readings_finite = and_second (all_finite m) (all_finite r) finite;
    } in
    let same : reading bytes s ≡ read_as n m r s = reading_is bytes s e in
    let pads : done k ≡ done n = sym told ∙ ap (λ (o : Call ℕ Stores). o.answer) same in
    let is : k ≡ n = cc in
    let front : take (n * n) (reading bytes s).left.matrix ≡ m =
    ap (λ (o : Call ℕ Stores). take (n * n) o.left.matrix) same ∙ take_at m (drop (n * n) s.matrix) (n * n) (length_list _ _) in
    let next : take n (reading bytes s).left.readings ≡ r =
    ap (λ (o : Call ℕ Stores). take n o.left.readings) same ∙ take_at r (drop n s.readings) n (length_list _ _) in
    let v : Writing n m r out made = rw (is, front, next) at w in
    one_writing n m r out made (written (Ok (file_length n)) (bytes ++ drop (file_length n) out)) v
    (write_done n m r out bytes (not_refused n m r (length out) f) p)
    ∙ ap (λ (j : ℕ). record { answer = done j; left = bytes ++ drop j out }) (sym whole)

-- Two different crossings never share a file; where the bits of a number differ, so do the bytes.
module _ (n n' : ℕ) (m m' r r' : Column) (out out' : List ℕ) (a b : Call ℕ (List ℕ)) (v : Writing n m r out a) (w : Writing n' m' r' out' b)
    (z : number_of a.answer ≡ 0) (y : number_of b.answer ≡ 0) (e : take (file_length n) a.left ≡ take (file_length n') b.left) where
  pub crossings_apart : Same n n' m m' r r'
  crossings_apart =
      one_crossing (take (file_length n') b.left) n n' m m' r r' (subst (λ (s : List ℕ). IsFile s n m r) e (v.file z)) (w.file y)

  pub bits_apart : (k : ℕ) → (to_bits binary64 (entry (m ++ r) k) ≡ to_bits binary64 (entry (m' ++ r') k) → ⊥) → ⊥
  bits_apart k differ =
      let c = crossings_apart in
      differ (ap₂ (λ (x y : Column). to_bits binary64 (entry (x ++ y) k)) c.matrix_same c.readings_same)

-- -0.0 and +0.0 have different bits
pub zeros_apart : to_bits binary64 (fin true 0 (pos 0)) ≡ to_bits binary64 (fin false 0 (pos 0)) → ⊥
unfolding to_bits size
zeros_apart e = omega arith
