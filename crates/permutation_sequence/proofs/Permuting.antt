-- Permuting as a call: the outcome as the calls meet it, and the theorems: what was permuted comes back bit for bit, rows and columns, and what follows
-- the last pair is not read. By the tests in their order; the way back is `permuted_back`. Assumes nothing.
use mathlib.Core.Path.{◌≡◌, refl, sym, ap, ◌∙◌}
use mathlib.Core.Bool.{Bool, true, false, not}
use mathlib.Core.List.{List, []}
use Prim.Native.Nat.{ℕ, ◌*◌, ◌<◌}
use borrow.Author.Rules.{rules}
use borrow.Author.Tests.{not-false}
use lib.ListN.{length, get_or}
use lib.Ieee.{nan}
use Rattle.numbers.specs.Column.{Column}
use Rattle.finite.specs.Finite.{all_finite}
use Rattle.numbers.proofs.Each.{each_each, each_id}
use Rattle.blas.proofs.Exchange.{exchanged_twice}
use Rattle.std.proofs.Common.{Result, Ok}
use Rattle.std.specs.Result.{IsErrAnd}
use Rattle.refusals.specs.declared.Refusal.{Refusal}
use Rattle.refusals.specs.Outcome.{done, number, number_of, Call, leaving}
use Rattle.store.specs.Columns.{flat, on_columns}
use Rattle.store.specs.Steps.{Matrix, swap_in_all}
use Rattle.store.proofs.Columns.{same_matrix}
use Rattle.swap_list.specs.SwapList.{Swaps, pairs_of, good_list}
use Rattle.exchanges.specs.Permute.{permuted_by, exchange_of, in_order, exchanges_on}
use Rattle.permutation_sequence.specs.Calls.{permuting_refusal, permuting, permuting_rows, permuting_columns}
use Rattle.refusals.proofs.Outcomes.{first_none, tested_none, none_given, Promise, promise_refused, promise_made}
use Rattle.swap_list.proofs.SwapList.{pairs_same, held_good, good_unread}
use Rattle.exchanges.proofs.Permute.{permuted_keeps, permuted_back}
use Rattle.exchanges.proofs.OnColumns.{Shape, exchange_keeps, length_on, on_nothing, on_on}
use Rattle.exchanges.proofs.Finite.{exchange_finite, finite_on}

-- ---- the call, by its refusal
module _ (exchange : ℕ → ℕ → Matrix → Matrix) (bound : ℕ) (backwards : Bool) (m n pairs : ℕ) (store : List ℕ) (s : Column) where
  pub permuting_refused : (r : Refusal) (answer : Result (Unit {0}) Refusal) → number r ≡ permuting_refusal s m n store pairs bound
      → IsErrAnd answer (λ e. e ≡ r) → Promise (permuting exchange bound backwards s m n store pairs) answer s
  unfolding permuting
  permuting_refused = promise_refused (permuting_refusal s m n store pairs bound) s _

  -- a list that is not refused is good
  good_permuted : permuting_refusal s m n store pairs bound ≡ 0 → good_list store pairs bound 64 ≡ true
  unfolding permuting_refusal
  good_permuted e = not-false _ (first_none _ (search rules) e).1.1.0

  accepted : permuting_refusal s m n store pairs bound ≡ 0
      → permuting exchange bound backwards s m n store pairs
      ≡ record { answer = done tt; left = on_columns m n (permuted_by exchange (in_order backwards (pairs_of pairs store))) s }
  unfolding permuting
  accepted e = tested_none (permuting_refusal s m n store pairs bound) (leaving s) _ e

  pub permuting_done : (t : Column) → 0 ≡ permuting_refusal s m n store pairs bound → t ≡ exchanges_on exchange backwards s m n store pairs
      → Promise (permuting exchange bound backwards s m n store pairs) (Ok tt) t
  unfolding permuting
  permuting_done t none made =
      let good = held_good bound 64 pairs store (good_permuted (sym none)) in
      let same = ap (λ (swaps : Swaps). on_columns m n (permuted_by exchange (in_order backwards swaps)) s) good in
      promise_made (permuting_refusal s m n store pairs bound) s _ (Ok tt) t none refl (made ∙ same)

  not_refused : number_of (permuting exchange bound backwards s m n store pairs).answer ≡ 0 → permuting_refusal s m n store pairs bound ≡ 0
  unfolding permuting
  not_refused h = none_given (permuting_refusal s m n store pairs bound) s _ h

-- ---- there and back

-- a call on a slice of the same length, as finite as the other, is refused alike
same_refusal : (bound m n pairs : ℕ) (store : List ℕ) (s t : Column) → length t ≡ length s → all_finite t ≡ all_finite s
    → permuting_refusal t m n store pairs bound ≡ permuting_refusal s m n store pairs bound
unfolding permuting_refusal
same_refusal bound m n pairs store s t e f = rw (same_matrix m n s t e, f)

exchange_twice : (columns : Bool) (i j : ℕ) (cs : Matrix) → exchange_of columns i j (exchange_of columns i j cs) ≡ cs
unfolding swap_in_all
exchange_twice true i j cs = exchanged_twice [] i j cs
exchange_twice false i j cs = each_each _ _ 0 cs ∙ each_id _ 0 cs (λ k c h. exchanged_twice nan i j c)

-- what was permuted is given back
abbrev pub Restored : Column → Call (Unit {0}) Column → Type 0
Restored s o = o ≡ record { answer = done tt; left = s }

restored : (columns : Bool) (bound : ℕ) (backwards : Bool) (m n pairs : ℕ) (store : List ℕ) (s : Column)
    → number_of (permuting (exchange_of columns) bound backwards s m n store pairs).answer ≡ 0
    → Restored s (permuting (exchange_of columns) bound (not backwards) (permuting (exchange_of columns) bound backwards s m n store pairs).left m n store
    pairs)
restored columns bound backwards m n pairs store s h =
    ap (λ (o : Call (Unit {0}) Column). permuting (exchange_of columns) bound (not backwards) o.left m n store pairs)
    (accepted (exchange_of columns) bound backwards m n pairs store s none)
    ∙ accepted (exchange_of columns) bound (not backwards) m n pairs store made
    (same_refusal bound m n pairs store s made (length_on m n there shape s) (finite_on m n there s same) ∙ none)
    ∙ ap (λ (t : Column). record { answer = done tt; left = t })
    (on_on m n there shape back s
    ∙ on_nothing m n (λ cs. back (there cs)) s
    (λ cs g. permuted_back (exchange_of columns) (exchange_twice columns) backwards (pairs_of pairs store) cs))
  where
    there : Matrix → Matrix
    there = permuted_by (exchange_of columns) (in_order backwards (pairs_of pairs store))

    back : Matrix → Matrix
    back = permuted_by (exchange_of columns) (in_order (not backwards) (pairs_of pairs store))

    made : Column
    made = on_columns m n there s

    none : permuting_refusal s m n store pairs bound ≡ 0
    none = not_refused (exchange_of columns) bound backwards m n pairs store s h

    shape : (cs : Matrix) → Shape m n cs → Shape m n (there cs)
    shape cs = permuted_keeps (exchange_of columns) (Shape m n) (exchange_keeps columns m n) (in_order backwards (pairs_of pairs store)) cs

    same : (cs : Matrix) → all_finite (flat (there cs)) ≡ all_finite (flat cs)
    same cs =
        permuted_keeps (exchange_of columns) (λ ds. all_finite (flat ds) ≡ all_finite (flat cs)) (λ i j ds e. exchange_finite columns i j ds ∙ e)
        (in_order backwards (pairs_of pairs store)) cs refl

-- permuting the rows, then permuting them the other way, restores every bit
pub rows_restored : (backwards : Bool) (m n pairs : ℕ) (store : List ℕ) (s : Column) → number_of (permuting_rows backwards s m n store pairs).answer ≡ 0
    → Restored s (permuting_rows (not backwards) (permuting_rows backwards s m n store pairs).left m n store pairs)
rows_restored backwards m n = restored false m backwards m n

-- the same of the columns
pub columns_restored : (backwards : Bool) (m n pairs : ℕ) (store : List ℕ) (s : Column) → number_of (permuting_columns backwards s m n store pairs).answer ≡ 0
    → Restored s (permuting_columns (not backwards) (permuting_columns backwards s m n store pairs).left m n store pairs)
columns_restored backwards m n = restored true n backwards m n

-- ---- what follows the last pair

-- two stores that agree on their pairs give the same outcome
pub permuting_unread : (exchange : ℕ → ℕ → Matrix → Matrix) (bound : ℕ) (backwards : Bool) (m n pairs : ℕ) (a b : List ℕ) (s : Column)
    → length a ≡ length b → ((k : ℕ) → k < 2 * pairs → get_or a k 0 ≡ get_or b k 0)
    → permuting exchange bound backwards s m n a pairs ≡ permuting exchange bound backwards s m n b pairs
unfolding permuting permuting_refusal
permuting_unread exchange bound backwards m n pairs a b s long same =
    rw (long, good_unread bound 64 pairs a b long same, pairs_same pairs a b same)
