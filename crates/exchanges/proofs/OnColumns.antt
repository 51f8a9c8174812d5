-- Work on the columns of a slice, one piece after another: where each piece keeps the shape of the matrix, the slice keeps its length and the pieces
-- join. By the test for a matrix. Assumes nothing.
use mathlib.Core.Path.{◌≡◌, refl, sym, ap, ◌∙◌}
use mathlib.Core.Bool.{Bool, true, false}
use mathlib.Core.List.{List, [], ◌∷◌, append-nil}
use Prim.Native.Nat.{ℕ, ◌+◌, ◌-◌, ◌*◌, ◌/◌, ◌≤◌, ◌<◌}
use native.Mathlib.Nat.{one-mul}
use native.Mathlib.Omega.{arith}
use lib.ListN.{length, get_or, take, drop, length-drop}
use lib.Seq.{take_all}
use lib.Ieee.{Float}
use Rattle.numbers.specs.Each.{each_from}
use Rattle.numbers.specs.Column.{Column}
use Rattle.numbers.proofs.Choice.{test_cases}
use Rattle.blas.proofs.Exchange.{other, other_range, exchanged_cases, length_exchanged, get_d_exchanged}
use Rattle.store.specs.Columns.{columns, flat, HasRows, is_matrix, on_columns}
use Rattle.store.specs.Steps.{Matrix, swap_in_all, rows_swapped}
use Rattle.store.proofs.Columns.{sized, is_matrix_lem, same_matrix, length_columns, columns_rows, flat_columns, length_flat, on_none, on_flat, on_same}
use Rattle.store.proofs.Columns.{on_columns_lem}
use Rattle.store.proofs.Steps.{range_all, length_swap_in_all, rows_swap_in_all}
use Rattle.swap_list.specs.SwapList.{Swaps, pairs_of, held}
use Rattle.exchanges.specs.Permute.{permuted_by, permute, rows_permuted, exchange_of, in_order}
use Rattle.swap_list.proofs.SwapList.{pairs_split, held_all, held_none}
use Rattle.exchanges.proofs.Permute.{permuted_append, permuted_nothing, permuted_end, rows_each}

-- n columns of m entries each
abbrev pub Shape : {A : Type 0} → ℕ → ℕ → List (List A) → Type 0
Shape m n cs = (length cs ≡ n) × HasRows m cs

module _ {A : Type 0} (m n : ℕ) where
  shaped : (s : List A) → is_matrix s m n ≡ true → Shape m n (columns m n s)
  shaped s h = (length_columns m n s, columns_rows m n s (sized m n s h).size)

  -- no work
  pub on_nothing : (f : List (List A) → List (List A)) (s : List A) → ((cs : List (List A)) → Shape m n cs → f cs ≡ cs) → on_columns m n f s ≡ s
  on_nothing f s none =
      test_cases (is_matrix s m n)
      (λ h. on_flat m n f s h ∙ ap flat (none (columns m n s) (shaped s h)) ∙ flat_columns m n s (sized m n s h).size)
      (λ h. sym (on_none m n f s h))

  module _ (g : List (List A) → List (List A)) (keeps : (cs : List (List A)) → Shape m n cs → Shape m n (g cs)) where
    pub length_on : (s : List A) → length (on_columns m n g s) ≡ length s
    length_on s =
        test_cases (is_matrix s m n)
        (λ h. let made = keeps (columns m n s) (shaped s h) in
        ap length (on_flat m n g s h) ∙ length_flat m (g (columns m n s)) made.1 ∙ ap (λ (k : ℕ). k * m) made.0 ∙ sym (sized m n s h).size)
        (λ h. ap length (sym (on_none m n g s h)))

    -- one piece of work behind another
    pub on_on : (f : List (List A) → List (List A)) (s : List A) → on_columns m n f (on_columns m n g s) ≡ on_columns m n (λ cs. f (g cs)) s
    on_on f s =
        let t = on_columns m n g s in
        test_cases (is_matrix s m n)
        (λ h. let made = keeps (columns m n s) (shaped s h) in
        on_flat m n f t (same_matrix m n s t (length_on s) ∙ h)
        ∙ ap (λ (cs : List (List A)). flat (f cs)) (on_columns_lem m n g s h made.0 made.1)
        ∙ sym (on_flat m n (λ cs. f (g cs)) s h))
        (λ h. sym (on_none m n f t (same_matrix m n s t (length_on s) ∙ h)) ∙ sym (on_none m n g s h) ∙ on_none m n (λ cs. f (g cs)) s h)

-- rows exchanged in all columns up to the last
pub on_all : (m n i p : ℕ) (s : List Float) → on_columns m n (rows_swapped i p 0 n) s ≡ on_columns m n (swap_in_all i p) s
on_all m n i p s =
    on_same m n (rows_swapped i p 0 n) s (swap_in_all i p) (range_all i p n (columns m n s) (omega (arith, length_columns m n s)))

-- ---- exchanges

-- an exchange keeps the shape
abbrev pub Keeps : ℕ → ℕ → (ℕ → ℕ → Matrix → Matrix) → Type 0
Keeps m n exchange = (i j : ℕ) (cs : Matrix) → Shape m n cs → Shape m n (exchange i j cs)

pub exchange_keeps : (columns : Bool) (m n : ℕ) → Keeps m n (exchange_of columns)
exchange_keeps true m n i j cs shape =
    let same = length_exchanged [] i j cs in (
      same ∙ shape.0,
      λ k h.
          let hk : k < length cs = rw same at h in
          exchanged_cases [] i j (length cs)
          (λ hi hj. ap length (get_d_exchanged [] i j cs k hi hj) ∙ shape.1 (other i j k) (other_range i j k (length cs) hi hj hk))
          (λ stays. ap (λ (ds : Matrix). length (get_or ds k [])) (stays cs refl) ∙ shape.1 k hk),
    )
exchange_keeps false m n i j cs shape = (length_swap_in_all i j cs ∙ shape.0, rows_swap_in_all i m j cs shape.1)

-- an exchange of the columns of a slice
abbrev pub on_slice : (ℕ → ℕ → Matrix → Matrix) → ℕ → ℕ → ℕ → ℕ → Column → Column
on_slice exchange m n i j s = on_columns m n (exchange i j) s

-- exchanges one after the other on a slice are the exchanges on its columns
module _ (m n : ℕ) (exchange : ℕ → ℕ → Matrix → Matrix) (keeps : Keeps m n exchange) where
  permuted_on : (swaps : Swaps) (s : Column) → permuted_by (on_slice exchange m n) swaps s ≡ on_columns m n (permuted_by exchange swaps) s
  unfolding permuted_by
  permuted_on [] s = sym (on_nothing m n (permuted_by exchange []) s (λ cs g. refl))
  permuted_on (p ∷ swaps) s =
      permuted_on swaps (on_columns m n (exchange p.0 p.1) s) ∙ on_on m n (exchange p.0 p.1) (keeps p.0 p.1) (permuted_by exchange swaps) s

  -- no pairs of a store, and the first pairs with those behind them
  pub pairs_none : (store : List ℕ) (s : Column) → s ≡ on_columns m n (permuted_by exchange (pairs_of 0 store)) s
  unfolding pairs_of permuted_by
  pairs_none store s = permuted_on [] s

  pub pairs_more : (a b : ℕ) (store : List ℕ) (s u t : Column) → u ≡ on_columns m n (permuted_by exchange (pairs_of a store)) s
      → t ≡ on_columns m n (permuted_by exchange (pairs_of b (drop (2 * a) store))) u → t ≡ on_columns m n (permuted_by exchange (pairs_of (a + b) store)) s
  pairs_more a b store s u t first second =
      let more = pairs_of b (drop (2 * a) store) in
      second
      ∙ sym (permuted_on more u)
      ∙ ap (permuted_by (on_slice exchange m n) more) (first ∙ sym (permuted_on (pairs_of a store) s))
      ∙ sym (permuted_append (on_slice exchange m n) (pairs_of a store) more s)
      ∙ ap (λ (swaps : Swaps). permuted_by (on_slice exchange m n) swaps s) (sym (pairs_split a b store))
      ∙ permuted_on (pairs_of (a + b) store) s

  -- as many fours as there are, and then the rest
  pub fours_applied : (pairs : ℕ) (store : List ℕ) (s u t : Column) → 2 * pairs ≤ length store
      → u ≡ on_columns m n (permuted_by exchange (pairs_of (4 * (pairs / 4)) store)) s
      → t ≡ on_columns m n (permuted_by exchange
      (in_order false (held (pairs - 4 * (pairs / 4)) (take (length store - 8 * (pairs / 4)) (drop (8 * (pairs / 4)) store))))) u
      → t ≡ on_columns m n (permuted_by exchange (in_order false (held pairs store))) s
  unfolding in_order
  fours_applied pairs store s u t h first second =
      let done = 4 * (pairs / 4) in
      let rest = pairs - done in
      let from = 8 * (pairs / 4) in
      let place : from ≡ 2 * done = omega arith in
      let part : take (length store - from) (drop from store) ≡ drop from store =
      take_all (length store - from) (drop from store) (rw length-drop (omega arith)) in
      let all : done + rest ≡ pairs = omega arith in
      let work : Swaps → Column → Column = λ swaps x. on_columns m n (permuted_by exchange swaps) x in
      pairs_more done rest store s u t first
      (second
      ∙ ap (λ (swaps : Swaps). work swaps u)
      (ap (held rest) part ∙ held_all rest (drop from store) (rw length-drop (omega arith)) ∙ ap (λ (a : ℕ). pairs_of rest (drop a store)) place))
      ∙ ap (λ (swaps : Swaps). work swaps s) (ap (λ (i : ℕ). pairs_of i store) all ∙ sym (held_all pairs store h))

  -- what the loop over the pairs of a store leaves: nothing is done where the store does not hold them, and all is done at its end
  module _ (backwards : Bool) (pairs : ℕ) (store : List ℕ) (s : Column) where
    pub applied_none : length store < 2 * pairs → s ≡ on_columns m n (permuted_by exchange (in_order backwards (held pairs store))) s
    applied_none h =
        sym (on_nothing m n (permuted_by exchange (in_order backwards (held pairs store))) s
        (λ cs g. ap (λ (swaps : Swaps). permuted_by exchange (in_order backwards swaps) cs) (held_none pairs store h) ∙ permuted_nothing exchange backwards cs))

    pub applied : (k : ℕ) (t : Column) → 2 * pairs ≤ length store → pairs ≤ k
        → permuted_by (on_slice exchange m n) (drop k (in_order backwards (pairs_of pairs store))) t
        ≡ permuted_by (on_slice exchange m n) (in_order backwards (pairs_of pairs store)) s
        → t ≡ on_columns m n (permuted_by exchange (in_order backwards (held pairs store))) s
    applied k t h g e =
        sym (permuted_end backwards pairs store (on_slice exchange m n) k t g)
        ∙ e
        ∙ permuted_on (in_order backwards (pairs_of pairs store)) s
        ∙ ap (λ (swaps : Swaps). on_columns m n (permuted_by exchange (in_order backwards swaps)) s) (sym (held_all pairs store h))

-- ---- one column as a matrix of its own
pub one_column : (m : ℕ) (swaps : Swaps) (x : Column) → m ≤ 64 → length x ≡ m → on_columns m 1 (rows_permuted swaps) x ≡ permute swaps x
unfolding columns flat each_from
one_column m swaps x h len =
    let fits : is_matrix x m 1 ≡ true = is_matrix_lem m 1 x h (omega arith) (len ∙ sym (one-mul m)) in
    on_flat m 1 (rows_permuted swaps) x fits
    ∙ ap flat (rows_each swaps (columns m 1 x))
    ∙ append-nil (permute swaps (take m x))
    ∙ ap (permute swaps) (take_all m x (omega arith))

-- what the loop over a single column gives
pub one_applied : (m n pairs : ℕ) (store : List ℕ) (s t : Column) → is_matrix s m n ≡ true → n ≡ 1 → 2 * pairs ≤ length store
    → t ≡ permute (pairs_of pairs store) s
    → t ≡ on_columns m n (rows_permuted (in_order false (held pairs store))) s
unfolding in_order
one_applied m n pairs store s t fits one room made =
    made
    ∙ ap (λ (p : Swaps). permute p s) (sym (held_all pairs store room))
    ∙ sym (one_column m (held pairs store) s (sized m n s fits).rows_most ((sized m n s fits).size ∙ ap (λ (k : ℕ). k * m) one ∙ one-mul m))
    ∙ ap (λ (k : ℕ). on_columns m k (rows_permuted (held pairs store)) s) (sym one)
