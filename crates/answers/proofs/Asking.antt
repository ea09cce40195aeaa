-- From a query line to the lines of its answer: what was read, the rows that can be shown, and the text of the columns as they are lent.
-- Assumes nothing.
use mathlib.Core.Path.{◌≡◌, refl, sym, ap, ap₂, subst, ◌∙◌}
use mathlib.Core.Logic.{⊎_elim}
use mathlib.Core.Bool.{Bool, true, false, cond}
use mathlib.Core.List.{List, ◌++◌, map}
use Rattle.std.proofs.Common.{Ok, Err}
use Rattle.std.proofs.lemmas.List.{get_or-take}
use Prim.Native.Nat.{ℕ, ◌≤◌, ◌<◌}
use native.Mathlib.Omega.{arith}
use lib.ListN.{length, get_or, take, drop, length-append, length-map, get_or-append}
use lib.Seq.{length-take-le, take-append_seam}
use lib.Dec.{eqb}
use Rattle.laws.proofs.Lists.{tabulate_ext}
use Rattle.laws.proofs.Members.{member_at}
use Rattle.laws.proofs.Order.{eq_or_ne}
use Rattle.names.specs.Features.{features_of}
use Rattle.names.proofs.Laws.{size_most}
use Rattle.lines.specs.Lines.{joined}
use Rattle.fields.specs.Layouts.{Reading}
use Rattle.fields.specs.Layouts.{is_frame, name_in, read_of, buffer_of, accepted_as, refused_with, longest_name}
use Rattle.fields.proofs.Laws.{read_roomy}
use Rattle.refusals.specs.declared.Refusal.{Refusal}
use Rattle.refusals.specs.Refusals.{refusal_number}
use Rattle.refusals.proofs.Refusals.{refused}
use Rattle.frames.specs.declared.Query.{Query}
use Rattle.frames.specs.Frames.{query_frame, query_out}
use Rattle.likeness.proofs.Least.{least_most}
use Rattle.words.specs.Words.{name_count, name_id, name_size}
use Rattle.index.proofs.Laws.{good_name_within}
use Rattle.sizes.specs.Method.{shared_with, answers_of}
use Rattle.search.specs.Answers.{number_in, rows_in, search_of, Columns, as_columns, room_of, least_for, columns_of, over, columns_over, places_given, Searched}
use Rattle.search.specs.Answers.{Answer}
use Rattle.search.specs.Answers.{Found, Refused}
use Rattle.search.proofs.Outcomes.{refused_empty, given_found, Answered, answered, shared_most}
use Rattle.search.proofs.Listed.{over_at, answer_place}
use Rattle.answers.specs.Output.{row_line, end_line, refusal_line, row_text, rows_text, found_text, answer_text, rows_lent, query_in, measure_in, p_in, q_in, allowance_in, search_for, columns_for, answer_of}
use Rattle.answers.specs.Rows.{Shown}

-- ---- what was read

module _ (line buffer : List ℕ) (room : length buffer ≡ longest_name) where
  read_as : (t : Bool) → is_frame query_frame line ≡ t → read_of query_frame line (length buffer) ≡ cond t (accepted_as query_frame line) (refused_with query_frame 11)
  read_as t e =
      read_roomy query_frame line (length buffer) (omega arith)
      ∙ ap (λ (b : Bool). cond b (accepted_as query_frame line) (refused_with query_frame 11)) e

  -- a refused reading is 11, and its line is answered so
  pub query_bad : (w : List ℕ) (e : Refusal) → query_out (Err e) ≡ read_of query_frame line (length buffer) → refusal_line (refusal_number e) 0 ≡ answer_of w line
  unfolding answer_of
  query_bad w e read = by_test (is_frame query_frame line) refl
    where
      by_test : (t : Bool) → is_frame query_frame line ≡ t
          → refusal_line (refusal_number e) 0
          ≡ cond t (answer_text (search_for w line) (columns_for w line)) (refusal_line 11 0)
      by_test true f = absurd (refused e (ap (λ (x : Reading). x.number) (read ∙ read_as true f)))
      by_test false f = ap (λ (x : Reading). refusal_line x.number 0) (read ∙ read_as false f)

  module _ (after : List ℕ) (r : Query) (read : query_out (Ok r) ≡ read_of query_frame line (length buffer)) (left : after ≡ buffer_of query_frame line buffer) where
    pub query_frame_lem : is_frame query_frame line ≡ true
    query_frame_lem = by_test (is_frame query_frame line) refl
      where
        by_test : (t : Bool) → is_frame query_frame line ≡ t → t ≡ true
        by_test true f = refl
        by_test false f = let e = ap (λ (x : Reading). x.number) (read ∙ read_as false f) in absurd (omega arith)

    accepted : query_out (Ok r) ≡ accepted_as query_frame line
    accepted = read ∙ read_as true query_frame_lem

    pub query_measure : r.measure ≡ measure_in line
    query_measure = ap (λ (x : Reading). get_or x.fields 0 0) accepted

    pub query_p : r.p ≡ p_in line
    query_p = ap (λ (x : Reading). get_or x.fields 1 0) accepted

    pub query_q : r.q ≡ q_in line
    query_q = ap (λ (x : Reading). get_or x.fields 2 0) accepted

    pub query_allowance : r.allowance ≡ allowance_in line
    query_allowance = ap (λ (x : Reading). get_or x.fields 3 0) accepted

    query_len : r.len ≡ length (query_in line)
    query_len = ap (λ (x : Reading). x.len) accepted

    query_left : after ≡ query_in line ++ drop (length (query_in line)) buffer
    query_left =
        left
        ∙ unfold buffer_of in ap
        (λ (x : Reading). cond (eqb x.number 0) (name_in query_frame line ++ drop (length (name_in query_frame line)) buffer) buffer)
        (sym read)

    pub query_within : r.len ≤ length after
    query_within =
        let n = ap length query_left in
        let m = length-append (query_in line) (drop (length (query_in line)) buffer) in
        let k = query_len in
        omega arith

    pub query_bytes : take r.len after ≡ query_in line
    query_bytes =
        ap₂ (λ (k : ℕ) (l : List ℕ). take k l) query_len query_left ∙ take-append_seam (query_in line) (drop (length (query_in line)) buffer)

-- ---- the rows that are shown

-- columns that agree up to n give equal lines
Agree : Columns → Columns → ℕ → Type 0
Agree c d n = (k : ℕ) → k < n → (get_or c.ids k 0 ≡ get_or d.ids k 0) × (get_or c.shared k 0 ≡ get_or d.shared k 0) × (get_or c.sizes k 0 ≡ get_or d.sizes k 0) × (get_or c.least k 0 ≡ get_or d.least k 0)

rows_same : (c d : Columns) (n : ℕ) → Agree c d n → rows_text c n ≡ rows_text d n
unfolding Agree
rows_same c d n e =
    ap joined (tabulate_ext (row_text c) (row_text d) n (λ k h. let g = e k h in λ t. row_line (g.0 t) (g.1 t) (g.2 t) (g.3 t)))

-- the first n rows alone
abbrev front : Columns → ℕ → Columns
front c n = as_columns (take n c.ids) (take n c.shared) (take n c.sizes) (take n c.least)

front_agrees : (c : Columns) (n : ℕ) → Agree (front c n) c n
unfolding Agree
front_agrees c n k h = (get_or-take n c.ids k 0 h, get_or-take n c.shared k 0 h, get_or-take n c.sizes k 0 h, get_or-take n c.least k 0 h)

pub rows_front : (c : Columns) (n : ℕ) → Shown c n → rows_text (front c n) (length (take n c.ids)) ≡ rows_text c n
rows_front c n s = ap (rows_text (front c n)) (length-take-le n c.ids s.in_ids) ∙ rows_same (front c n) c n (front_agrees c n)

pub shown_front : (c : Columns) (n : ℕ) → Shown c n → Shown (front c n) (length (take n c.ids))
unfolding Agree
shown_front c n s =
    let a = front_agrees c n in
    let few = s.few in
    let i = length-take-le n c.ids s.in_ids in
    let h = length-take-le n c.shared s.in_shared in
    let z = length-take-le n c.sizes s.in_sizes in
    let l = length-take-le n c.least s.in_least in
    record {
      few = omega arith;
      in_ids = omega arith;
      in_shared = omega arith;
      in_sizes = omega arith;
      in_least = omega arith;
      id = λ k b. (let m : k < n = omega arith in rw (a k m).0 (s.id k m));
      share = λ k b. (let m : k < n = omega arith in rw (a k m).1 (s.share k m));
      size = λ k b. (let m : k < n = omega arith in rw (a k m).2 (s.size k m));
      least = λ k b. (let m : k < n = omega arith in rw (a k m).3 (s.least k m));
    }

text_agrees : (r : Answer) (c d : Columns) → (number_in r ≡ 0 → Agree c d (rows_in r)) → answer_text r c ≡ answer_text r d
unfolding answer_text found_text
text_agrees (Found n t p q) c d e = ap (λ (x : List ℕ). x ++ end_line n t p q) (rows_same c d n (e refl))
text_agrees (Refused n t) c d e = refl

-- a search with as much room as the program lends, of columns that are lent
module _ (s : List ℕ) (m p q allowance : ℕ) (w : List ℕ) (before after : Columns) (r : Answer) (room : room_of before ≡ rows_lent)
    (searched : Searched s m p q allowance w before after r) where
  places : List ℕ
  places = answers_of w m p q (features_of s)

  asked : r ≡ search_of s m p q allowance w rows_lent
  asked = searched.answer ∙ ap (search_of s m p q allowance w) room

  facts : number_in r ≡ 0 → Answered s m p q allowance w rows_lent
  facts n = answered s m p q allowance w rows_lent (sym (ap number_in asked) ∙ n)

  rows : number_in r ≡ 0 → rows_in r ≡ length places
  unfolding places
  rows n = ap rows_in (asked ∙ (facts n).form)

  -- the columns of an answer
  left : number_in r ≡ 0 → after ≡ columns_over (columns_of w m p q (features_of s) places) before
  unfolding places
  left n =
      searched.columns
      ∙ ap (λ (l : List ℕ). columns_over (columns_of w m p q (features_of s) l) before)
      (given_found (search_of s m p q allowance w (room_of before)) _ _ _ _ (answers_of w m p q (features_of s)) (sym searched.answer ∙ asked ∙ (facts n).form))

  -- a column at row k
  at : (f : ℕ → ℕ) (l : List ℕ) → number_in r ≡ 0 → (k : ℕ) → k < rows_in r → get_or (over (map f places) l) k 0 ≡ f (get_or places k 0)
  at f l n k h = let c = rows n in over_at f places l k (omega arith)

  long : (f : ℕ → ℕ) (l : List ℕ) → number_in r ≡ 0 → rows_in r ≤ length (over (map f places) l)
  long f l n =
      let c = rows n in
      let g = length-append (map f places) (drop (length (map f places)) l) in
      let o = length-map places f in
      omega arith

  name : number_in r ≡ 0 → (k : ℕ) → k < rows_in r → get_or places k 0 < name_count w
  unfolding places
  name n k h =
      let c = rows n in
      (answer_place w m p q (features_of s) (get_or (answers_of w m p q (features_of s)) k 0) (member_at (answers_of w m p q (features_of s)) k (omega arith))).0

  shown_left : number_in r ≡ 0 → Shown (columns_over (columns_of w m p q (features_of s) places) before) (rows_in r)
  shown_left n =
      let c = rows n in
      let fits = (facts n).fits in
      let good = (facts n).admitted.good in
      record {
        few = unfold places in omega arith;
        in_ids = long (name_id w) before.ids n;
        in_shared = long (shared_with w (features_of s)) before.shared n;
        in_sizes = long (name_size w) before.sizes n;
        in_least = long (least_for w m p q (features_of s)) before.least n;
        id = λ k h. (let e = at (name_id w) before.ids n k h in let b = good_name_within w good _ (name n k h) in let b0 = b.0 in omega arith);
        share = λ k h. (let e = at (shared_with w (features_of s)) before.shared n k h in let b = shared_most w (features_of s) (get_or places k 0) in let d = size_most s in omega arith);
        size = λ k h. (let e = at (name_size w) before.sizes n k h in let b = good_name_within w good _ (name n k h) in let b2 = b.2 in omega arith);
        least = λ k h. (let e = at (least_for w m p q (features_of s)) before.least n k h in let b = good_name_within w good _ (name n k h) in let b2 = b.2 in let d = size_most s in let l = least_most m p q (length (features_of s)) (name_size w (get_or places k 0)) (facts n).admitted.known (facts n).admitted.exact in omega arith);
      }

  pub shown : Shown after (rows_in r)
  shown =
      ⊎_elim
      (λ (n : number_in r ≡ 0). subst (λ (c : Columns). Shown c (rows_in r)) (sym (left n)) (shown_left n))
      (λ (n : number_in r ≡ 0 → ⊥).
      let z = (refused_empty r n).0 in
      record {
        few = omega arith;
        in_ids = omega arith;
        in_shared = omega arith;
        in_sizes = omega arith;
        in_least = omega arith;
        id = λ k h. absurd (omega arith);
        share = λ k h. absurd (omega arith);
        size = λ k h. absurd (omega arith);
        least = λ k h. absurd (omega arith);
      })
      (eq_or_ne (number_in r) 0)

  -- the text of the lent columns is that of the given rows
  pub text_same : answer_text r after ≡ answer_text r (columns_of w m p q (features_of s) (places_given s m p q allowance w rows_lent))
  unfolding places Agree
  text_same =
      text_agrees r after (columns_of w m p q (features_of s) (places_given s m p q allowance w rows_lent))
      (λ n.
      let given = given_found (search_of s m p q allowance w rows_lent) _ _ _ _ (answers_of w m p q (features_of s)) (facts n).form in
      subst (λ (c : Columns). Agree c (columns_of w m p q (features_of s) (places_given s m p q allowance w rows_lent)) (rows_in r)) (sym (left n))
      (subst (λ (l : List ℕ). Agree (columns_over (columns_of w m p q (features_of s) (answers_of w m p q (features_of s))) before) (columns_of w m p q (features_of s) l) (rows_in r)) (sym given)
      (λ k h. (start (name_id w) before.ids n k h, start (shared_with w (features_of s)) before.shared n k h, start (name_size w) before.sizes n k h, start (least_for w m p q (features_of s)) before.least n k h))))
    where
      start : (f : ℕ → ℕ) (l : List ℕ) → number_in r ≡ 0 → (k : ℕ) → k < rows_in r
          → get_or (over (map f (answers_of w m p q (features_of s))) l) k 0 ≡ get_or (map f (answers_of w m p q (features_of s))) k 0
      start f l n k h =
          let c = rows n in
          let o = length-map (answers_of w m p q (features_of s)) f in
          get_or-append (map f (answers_of w m p q (features_of s))) (drop (length (map f (answers_of w m p q (features_of s)))) l) 0 k (omega arith)

  -- and so that of the 51 line which asks for the search
  pub answer_as : (line : List ℕ) → is_frame query_frame line ≡ true → s ≡ query_in line → m ≡ measure_in line → p ≡ p_in line → q ≡ q_in line
      → allowance ≡ allowance_in line → answer_text r after ≡ answer_of w line
  answer_as line f es em ep eq ea = text_same ∙ ap (λ (x : Answer). answer_text x (columns_of w m p q (features_of s) (places_given s m p q allowance w rows_lent))) asked ∙ same
    where
      same : answer_text (search_of s m p q allowance w rows_lent) (columns_of w m p q (features_of s) (places_given s m p q allowance w rows_lent)) ≡ answer_of w line
      same = unfold answer_of in rw (f, es, em, ep, eq, ea) refl

-- the room of columns of as many rows as are lent
pub room_lent : (c : Columns) → length c.ids ≡ rows_lent → length c.shared ≡ rows_lent → length c.sizes ≡ rows_lent → length c.least ≡ rows_lent → room_of c ≡ rows_lent
room_lent c e f g h = rw (e, f, g, h) refl
