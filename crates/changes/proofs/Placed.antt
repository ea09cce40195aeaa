-- Rows' words, but for the places of their lists and for a count that is still to grow: two parts of them, one posting more, and what `placed_from` makes
-- of them.
-- Assumes nothing.
use mathlib.Core.Path.{◌≡◌, refl, sym, ap, ap₂, ◌∙◌}
use mathlib.Core.Logic.{⊎_elim}
use mathlib.Core.Bool.{Bool, true, false, cond, ◌||◌, true≢false, and-false}
use mathlib.Core.List.{List, [], ◌∷◌, ◌++◌, append_assoc, append-nil}
use Prim.Native.Nat.{ℕ, suc, ◌+◌, ◌*◌, ◌/◌, ◌%◌, ◌≤◌, ◌<◌}
use native.Mathlib.Nat.{add-zero}
use native.Mathlib.Omega.{arith}
use lib.ListN.{length, get_or, take, drop, set, length-append}
use lib.Seq.{set_at, get_or-append-add, take_at, drop_at}
use lib.Dec.{eqb}
use borrow.Author.Tests.{eq-eqb, ne_eqb}
use Rattle.laws.specs.Lists.{member, Ascending}
use Rattle.laws.proofs.Members.{member_head, member_tail, member_nil, member_cases}
use Rattle.laws.proofs.Sort.{above_member, ascending_above, ascending_rest, length_insert}
use Rattle.words.specs.Words.{name_start, row_width, feature_span}
use Rattle.index_writer.specs.Built.{Row, lists_of, row_words, words_from}
use Rattle.binary_search.specs.Seats.{place_of}
use Rattle.changes.specs.Rows.{keys_in, put_posting}
use Rattle.changes.specs.Cuts.{RowsAs, RowsShort, of_features, placed_from, settled}
use Rattle.changes.proofs.Lists.{absent_rest, place_nil, place_passed, place_first}
use Rattle.changes.proofs.Put.{put_nil, put_cases}

-- ---- all but the places

pub rows_as_words : (place : ℕ) (rows : List Row) → RowsAs rows (row_words place rows)
unfolding RowsAs row_words
rows_as_words place [] = refl
rows_as_words place (r ∷ rs) = (place, row_words (place + length r.list) rs, refl, rows_as_words (place + length r.list) rs)

pub rows_as_length : (rows : List Row) (ws : List ℕ) → RowsAs rows ws → length ws ≡ row_width * length rows
unfolding RowsAs
rows_as_length [] ws h = ap length h
rows_as_length (r ∷ rs) ws h = let e = ap length h.2 in let k = rows_as_length rs h.1 h.3 in omega arith

-- two parts, and back
pub rows_as_append : (a b : List Row) (ws vs : List ℕ) → RowsAs a ws → RowsAs b vs → RowsAs (a ++ b) (ws ++ vs)
unfolding RowsAs
rows_as_append [] b ws vs h k = rw h k
rows_as_append (r ∷ a) b ws vs h k = (h.0, h.1 ++ vs, ap (λ (l : List ℕ). l ++ vs) h.2, rows_as_append a b h.1 vs h.3 k)

pub rows_as_split : (a b : List Row) (ws : List ℕ) → RowsAs (a ++ b) ws
    → (us : List ℕ) × (vs : List ℕ) × (ws ≡ us ++ vs) × RowsAs a us × RowsAs b vs
unfolding RowsAs
rows_as_split [] b ws f = ([], ws, refl, refl, f)
rows_as_split (r ∷ a) b ws f =
    let s = rows_as_split a b f.1 f.3 in
    let four : List ℕ → List ℕ = λ l. (r.key / feature_span) ∷ (r.key % feature_span) ∷ f.0 ∷ length r.list ∷ l in
    (four s.0, s.1, f.2 ∙ ap four s.2, (f.0, s.0, refl, s.3), s.4)

-- ---- one row among others: its words, and its count set

module _ (a : List Row) (r : Row) (b : List Row) (ws : List ℕ) (f : RowsAs (a ++ r ∷ b) ws) where
  middle : (us : List ℕ) × (place : ℕ) × (vs : List ℕ)
      × (ws ≡ us ++ ((r.key / feature_span) ∷ (r.key % feature_span) ∷ place ∷ length r.list ∷ vs))
      × (length us ≡ row_width * length a)
      × RowsAs a us
      × RowsAs b vs
  unfolding RowsAs
  middle =
      let s = rows_as_split a (r ∷ b) ws f in
      let g = s.4 in
      (s.0, g.0, g.1, s.2 ∙ ap (λ (l : List ℕ). s.0 ++ l) g.2, rows_as_length a s.0 s.3, s.3, g.3)

  -- word c of the row
  word_at_lem : (c : ℕ) → get_or ws (row_width * length a + c) 0 ≡ get_or ((r.key / feature_span) ∷ (r.key % feature_span) ∷ middle.1 ∷ length r.list ∷ middle.2) c 0
  word_at_lem c =
      let m = middle in
      ap₂ (λ (l : List ℕ) (n : ℕ). get_or l (n + c) 0) m.3 (sym m.4)
      ∙ get_or-append-add m.0 ((r.key / feature_span) ∷ (r.key % feature_span) ∷ m.1 ∷ length r.list ∷ m.2) c 0

  pub size_at_lem : get_or ws (row_width * length a) 0 ≡ r.key / feature_span
  size_at_lem = ap (λ (n : ℕ). get_or ws n 0) (sym (add-zero (row_width * length a))) ∙ word_at_lem 0

  pub feature_at_lem : get_or ws (row_width * length a + 1) 0 ≡ r.key % feature_span
  feature_at_lem = word_at_lem 1

  pub count_at : get_or ws (row_width * length a + 3) 0 ≡ length r.list
  count_at = word_at_lem 3

  pub count_set : (l : List ℕ) → RowsAs (a ++ record { key = r.key; list = l } ∷ b) (set ws (row_width * length a + 3) (length l))
  unfolding RowsAs
  count_set l =
      let m = middle in
      let three : List ℕ = (r.key / feature_span) ∷ (r.key % feature_span) ∷ m.1 ∷ [] in
      let n : length (m.0 ++ three) ≡ row_width * length a + 3 = length-append m.0 three ∙ ap (λ (k : ℕ). k + 3) m.4 in
      let e : set ws (row_width * length a + 3) (length l) ≡ m.0 ++ (three ++ length l ∷ m.2) =
      ap (λ (k : List ℕ). set k (row_width * length a + 3) (length l)) (m.3 ∙ sym (append_assoc m.0 three (length r.list ∷ m.2)))
      ∙ set_at (m.0 ++ three) (length r.list) m.2 (length l) (row_width * length a + 3) n
      ∙ append_assoc m.0 three (length l ∷ m.2)
      in
      rw e (rows_as_append a (record { key = r.key; list = l } ∷ b) m.0 (three ++ length l ∷ m.2) m.5 (m.1, m.2, refl, m.6))

-- ---- and one less in some counts

short_none : (t : ℕ → Bool) → ((k : ℕ) → t k ≡ false) → (rows : List Row) (ws : List ℕ) → RowsAs rows ws → RowsShort t rows ws
unfolding RowsAs RowsShort
short_none t n [] ws h = h
short_none t n (r ∷ rs) ws h =
    let e : ◌≡◌ {A = ℕ} (cond (t r.key) 1 0) 0 = rw (n r.key) in
    (h.0, length r.list, h.1, h.2, omega arith, short_none t n rs h.1 h.3)

pub short_length : (t : ℕ → Bool) (rows : List Row) (ws : List ℕ) → RowsShort t rows ws → length ws ≡ row_width * length rows
unfolding RowsShort
short_length t [] ws h = ap length h
short_length t (r ∷ rs) ws h = let e = ap length h.3 in let k = short_length t rs h.2 h.5 in omega arith

-- tests that agree on the keys
pub short_keys : (t u : ℕ → Bool) (rows : List Row) (ws : List ℕ) → ((k : ℕ) → member k (keys_in rows) ≡ true → t k ≡ u k) → RowsShort t rows ws → RowsShort u rows ws
unfolding RowsShort
short_keys t u [] ws e h = h
short_keys t u (r ∷ rs) ws e h = (
  h.0,
  h.1,
  h.2,
  h.3,
  h.4 ∙ ap (λ (b : Bool). h.1 + cond b 1 0) (e r.key (member_head r.key (keys_in rs))),
  short_keys t u rs h.2 (λ k m. e k (member_tail r.key k (keys_in rs) m)) h.5,
)

-- whatever follows the rows' words stays
pub placed_front : (size : ℕ) (fs : List ℕ) (place : ℕ) (rows : List Row) (ws rest : List ℕ) → RowsShort (of_features size fs) rows ws
    → placed_from (length rows) place size fs (ws ++ rest) ≡ row_words place rows ++ rest
unfolding RowsShort placed_from row_words
placed_front size fs place [] ws rest h = rw h
placed_front size fs place (r ∷ rs) ws rest h =
    rw h.3
    (ap (λ (m : ℕ). s ∷ f ∷ place ∷ m ∷ placed_from (length rs) (place + m) size fs (h.2 ++ rest)) (sym h.4)
    ∙ ap (λ (l : List ℕ). s ∷ f ∷ place ∷ length r.list ∷ l) (placed_front size fs (place + length r.list) rs h.2 rest h.5))
  where
    s : ℕ
    s = r.key / feature_span

    f : ℕ
    f = r.key % feature_span

pub placed_words : (size : ℕ) (fs : List ℕ) (place : ℕ) (rows : List Row) (ws : List ℕ) → RowsShort (of_features size fs) rows ws
    → placed_from (length rows) place size fs ws ≡ row_words place rows
placed_words size fs place rows ws h =
    ap (placed_from (length rows) place size fs) (sym (append-nil ws))
    ∙ placed_front size fs place rows ws [] h
    ∙ append-nil (row_words place rows)

-- the places alone
pub short_same : (size : ℕ) (rows : List Row) (ws : List ℕ) → RowsAs rows ws → RowsShort (of_features size []) rows ws
unfolding member
short_same size rows ws h = short_none (of_features size []) (λ k. and-false (eqb (k / feature_span) size)) rows ws h

pub placed_same : (size place : ℕ) (rows : List Row) (ws : List ℕ) → RowsAs rows ws → placed_from (length rows) place size [] ws ≡ row_words place rows
placed_same size place rows ws h = placed_words size [] place rows ws (short_same size rows ws h)

-- the whole index, whatever stood in the head and whatever follows
pub settled_words : (size : ℕ) (fs names : List ℕ) (rows : List Row) (a b c : ℕ) (ws rest : List ℕ) → RowsShort (of_features size fs) rows ws
    → settled (length names) (length rows) (length (lists_of rows)) size fs (a ∷ b ∷ c ∷ (names ++ (ws ++ (lists_of rows ++ rest)))) ≡ words_from names rows ++ rest
unfolding words_from
settled_words size fs names rows a b c ws rest h =
    ap₂ (λ (x y : List ℕ). x ++ (placed_from (length rows) 0 size fs (take (row_width * length rows) y) ++ drop (row_width * length rows) y)) (take_at front (ws ++ tail) (name_start (length names)) start) (drop_at front (ws ++ tail) (name_start (length names)) start)
    ∙ ap₂ (λ (x y : List ℕ). front ++ (placed_from (length rows) 0 size fs x ++ y)) (take_at ws tail (row_width * length rows) wide) (drop_at ws tail (row_width * length rows) wide)
    ∙ ap (λ (l : List ℕ). front ++ (l ++ tail)) (placed_words size fs 0 rows ws h)
    ∙ ap (λ (l : List ℕ). length names ∷ length rows ∷ length (lists_of rows) ∷ l) (simp append_assoc)
  where
    front : List ℕ
    front = length names ∷ length rows ∷ length (lists_of rows) ∷ names

    tail : List ℕ
    tail = lists_of rows ++ rest

    start : length front ≡ name_start (length names)
    start = omega arith

    wide : length ws ≡ row_width * length rows
    wide = short_length (of_features size fs) rows ws h

-- ---- one posting more, of a key that is not yet among those tested

module _ (t : ℕ → Bool) (key id : ℕ) (fresh : t key ≡ false) where
  abbrev also : ℕ → Bool
  also k = eqb k key || t k

  other : (k : ℕ) → (k ≡ key → ⊥) → t k ≡ also k
  other k n = rw (ne_eqb k key n)

  -- where no row has the key
  short_other : (rows : List Row) (ws : List ℕ) → ((k : ℕ) → member k (keys_in rows) ≡ true → key < k) → RowsShort t rows ws → RowsShort also rows ws
  short_other rows ws n h = short_keys t also rows ws (λ k m. other k (λ e. let b = n k m in omega arith)) h

  -- its row is there: the words stay
  pub short_met : (rows : List Row) (ws : List ℕ) → Ascending (keys_in rows) → member key (keys_in rows) ≡ true → RowsShort t rows ws
      → RowsShort also (put_posting key id rows) ws
  unfolding RowsShort
  short_met [] ws a m h = absurd (member_nil key m)
  short_met (r ∷ rs) ws a m h =
      put_cases key id r rs (λ (l : List Row). RowsShort also l ws)
      (λ b. (
        h.0,
        h.1,
        h.2,
        h.3,
        h.4 ∙ ap (λ (c : Bool). h.1 + cond c 1 0) (other r.key (λ e. omega arith)),
        short_met rs h.2 (ascending_rest r.key (keys_in rs) a) (⊎_elim (λ (e : key ≡ r.key). absurd (omega arith)) (λ (o : member key (keys_in rs) ≡ true). o) (member_cases r.key key (keys_in rs) m)) h.5,
      ))
      (λ e. (
        h.0,
        h.1,
        h.2,
        h.3,
        (let p = length_insert id r.list in
            let q = h.4 in
            let u : ◌≡◌ {A = ℕ} (cond (t r.key) 1 0) 0 = rw (e, fresh) in
            let v : ◌≡◌ {A = ℕ} (cond (also r.key) 1 0) 1 = rw (eq-eqb r.key key e) in
            omega arith),
        short_other rs h.2 (λ k o. let b = above k o in omega arith) h.5,
      ))
      (λ b. absurd (⊎_elim (λ (e : key ≡ r.key). omega arith) (λ (o : member key (keys_in rs) ≡ true). let c = above key o in omega arith) (member_cases r.key key (keys_in rs) m)))
    where
      above : (k : ℕ) → member k (keys_in rs) ≡ true → r.key < k
      above = above_member r.key (keys_in rs) (ascending_above r.key (keys_in rs) a)

  -- it is not: four words more at its place
  pub short_new : (rows : List Row) (ws : List ℕ) → Ascending (keys_in rows) → member key (keys_in rows) ≡ false → RowsShort t rows ws
      → RowsShort also (put_posting key id rows)
      (take (row_width * place_of key (keys_in rows)) ws
      ++ (key / feature_span) ∷ (key % feature_span) ∷ 0 ∷ 0 ∷ drop (row_width * place_of key (keys_in rows)) ws)
  unfolding RowsShort
  short_new [] ws a n h = rw (place_nil key, put_nil key id) (0, 0, ws, refl, lone, h)
    where
      lone : ◌≡◌ {A = ℕ} 1 (0 + cond (also key) 1 0)
      lone = rw (eq-eqb key key refl)
  short_new (r ∷ rs) ws a n h =
      put_cases key id r rs (λ (l : List Row). RowsShort also l (take (row_width * place_of key (keys_in (r ∷ rs))) ws ++ (key / feature_span) ∷ (key % feature_span) ∷ 0 ∷ 0 ∷ drop (row_width * place_of key (keys_in (r ∷ rs))) ws))
      (λ b.
      let e : row_width * place_of key (keys_in (r ∷ rs)) ≡ suc (suc (suc (suc (row_width * place_of key (keys_in rs))))) = omega (arith, place_passed key r.key (keys_in rs) b) in
      rw (e, h.3) (
        h.0,
        h.1,
        take (row_width * place_of key (keys_in rs)) h.2 ++ (key / feature_span) ∷ (key % feature_span) ∷ 0 ∷ 0 ∷ drop (row_width * place_of key (keys_in rs)) h.2,
        refl,
        h.4 ∙ ap (λ (c : Bool). h.1 + cond c 1 0) (other r.key (λ q. omega arith)),
        short_new rs h.2 (ascending_rest r.key (keys_in rs) a) (absent_rest r.key key (keys_in rs) n) h.5,
      ))
      (λ e. absurd (true≢false (sym (member_head r.key (keys_in rs)) ∙ ap (λ (k : ℕ). member k (keys_in (r ∷ rs))) e ∙ n)))
      (λ b.
      let g : key ≤ r.key = omega arith in
      let c = ascending_above r.key (keys_in rs) a in
      rw (place_first key r.key (keys_in rs) a g) (
        0,
        0,
        ws,
        refl,
        (rw (eq-eqb key key refl)),
        short_other (r ∷ rs) ws (λ k m. ⊎_elim (λ (e : k ≡ r.key). omega arith) (λ (o : member k (keys_in rs) ≡ true). let d = above_member r.key (keys_in rs) c k o in omega arith) (member_cases r.key k (keys_in rs) m)) h,
      ))
