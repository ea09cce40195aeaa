-- Names added and withdrawn: specs/Live.antt says what, this file cites why.
-- The idea of `all_live`: from a build on, through accepted calls, the words are the index of the live names and blanks behind it. The idea of `any_run`:
-- a refused call changes neither words nor names, so what is live after any run is live by the accepted ones.
-- Assumes nothing.
use mathlib.Core.Path.{◌≡◌, refl, sym, ap, ap₂, subst, ◌∙◌}
use mathlib.Core.Logic.{⊎_elim}
use mathlib.Core.Bool.{Bool, true, false, cond, not, false≢true}
use mathlib.Core.List.{List, [], ◌∷◌, map, map-map}
use Prim.Native.Nat.{ℕ, ◌+◌, ◌-◌, ◌*◌, ◌≤◌, ◌<◌}
use native.Mathlib.Nat.{le_trans}
use native.Mathlib.Omega.{arith}
use borrow.Author.Tests.{eqb-true, eqb-false, eq-eqb, ne_eqb}
use lib.ListN.{length, get_or, take, replicate, length-map, get_or-map, get_or-replicate}
use lib.Seq.{get_or-append-add}
use lib.Dec.{eqb, leb}
use Rattle.laws.specs.Lists.{member, Ascending, count_of, sum_of}
use Rattle.laws.specs.Each.{Each}
use Rattle.laws.specs.Filter.{filter_of}
use Rattle.laws.specs.Below.{count_below}
use Rattle.laws.proofs.Members.{member_head, member_nil, member_cases, each_first, each_rest}
use Rattle.laws.proofs.Images.{tabulate_of}
use Rattle.laws.proofs.Order.{eq_or_ne}
use Rattle.laws.proofs.Sums.{sum_map}
use Rattle.laws.proofs.Sort.{ascending_first, ascending_rest}
use Rattle.laws.proofs.Below.{sum_below_ext}
use Rattle.laws.proofs.BinarySearch.{count_index}
use Rattle.names.specs.Features.{features_of}
use Rattle.likeness.specs.Sizes.{is_searched}
use Rattle.hex_digits.specs.Lines.{Bytes}
use Rattle.words.specs.Words.{name_count, posting_count, name_word, name_id, name_size, total}
use Rattle.index.specs.Good.{Good}
use Rattle.index_writer.specs.Built.{Entry, no_entry, word_of, words_of}
use Rattle.index_writer.specs.Contents.{names_in, entries_in, Narrow}
use Rattle.index_writer.specs.Written.{blank, pad_to}
use Rattle.index_writer.proofs.Read.{narrow_words}
use Rattle.index_writer.proofs.Built.{built_total, built_words, length_triples, name_fit}
use Rattle.index_writer.proofs.Unique.{good_words, good_fit}
use Rattle.changes.specs.Names.{with_entry, without_id}
use Rattle.changes.proofs.Lists.{absent_rest, filter_map, each_filter}
use Rattle.changes.proofs.Names.{fit_added}
use Rattle.upkeep.specs.Upkeep.{entry_for, added_of, words_added, withdrawn_of, words_withdrawn}
use Rattle.upkeep.proofs.Judging.{added_adds, added_fits, added_over, Lacks, added_eight, added_kept, withdrawn_live, withdrawn_kept}
use Rattle.upkeep.proofs.Names.{Written, written_length, written_good, written_narrow, written_postings, written_live, length_entries, after_add, postings_add, after_withdraw, postings_withdraw, written_added, written_withdrawn, withdraw_add}
use Rattle.lines.specs.Lines.{lines_of}
use Rattle.lines.proofs.Lines.{lines_nil}
use Rattle.sizes.specs.Method.{names_of, touches_of_size}
use Rattle.register.specs.Build.{most_words, words_after}
use Rattle.register.proofs.Room.{words_most}
use Rattle.statements.specs.Demands.{Lending, columns, records, Question, steps, Answered, Demand3, Demands, with_words, Holds, Listing}
use Rattle.statements.specs.Former.{of_entries, IdName}
use Rattle.statements.specs.Live.{TheIndex, Leaves, Adding, Withdrawing, OneCall, Call, Callable, words_then, with_id_name, without_id_name, id_names, Live, built, added, withdrawn, of_id_names, size_of, WorkOver, DemandsOver, Alive, AllLive, words_last, live_then, live_last, name_under, size_added, size_withdrawn, sizes_added, sizes_withdrawn, PostingsHeld, size_taken, sizes_taken, AnyRun, AnyRunFromEmpty, add, withdraw}
use Rattle.statements.proofs.Demands.{searches}
use Rattle.statements.proofs.Listing.{listings}
use Rattle.statements.proofs.Former.{indexed}
use Rattle.statements.proofs.Registers.{Named, entry_named, lines_named, lines_written, register_accepted, register_words}

-- ---- one call, of any words

-- words that hold names have their name words
held_words : (w : List ℕ) (es : List Entry) → Holds w (of_entries es) → names_in w ≡ map word_of es
unfolding names_in name_id name_size
held_words w es h =
    sym (tabulate_of (name_word w) (name_count w) 0 (map word_of es) (length-map es word_of ∙ sym h.count) (λ i b. get_or-map word_of es i no_entry ∙ same i b))
  where
    same : (i : ℕ) → i < name_count w → word_of (get_or es i no_entry) ≡ name_word w i
    same i b =
        let c = h.count in
        let l : i < length es = omega arith in
        let x = h.id i l in
        let y = h.size i l in
        omega arith

-- the words of names that fit, and blanks behind them
the_index : (n : ℕ) (w : List ℕ) (es : List Entry) → Written n w es → TheIndex w (of_entries es)
the_index n w es k =
    record {
      good = written_good n w es k;
      holds = rw k.words (indexed es rest k.fit).holds;
      beyond = beyond;
      only = λ other words good holds.
          good_words other es good (narrow_words other words) k.fit (held_words other es holds) holds.features
          ∙ sym (ap (λ (v : List ℕ). take (total v) v) k.words ∙ built_words es rest);
    }
  where
    rest : List ℕ
    rest = replicate (n - length (words_of es)) blank

    beyond : (i : ℕ) → total w ≤ i → i < length w → get_or w i 0 ≡ blank
    beyond i h b =
        let t = ap total k.words ∙ built_total es rest in
        let l = written_length n w es k in
        let j : ℕ = i - length (words_of es) in
        let e : i ≡ length (words_of es) + j = omega arith in
        ap₂ (λ (v : List ℕ) (x : ℕ). get_or v x 0) k.words e
        ∙ get_or-append-add (words_of es) rest j 0
        ∙ get_or-replicate (n - length (words_of es)) j blank 0 (omega arith)

leaves : (w after : List ℕ) (es : List Entry) → Written (length w) after es → Leaves w after (of_entries es)
leaves w after es k =
    let i = the_index (length w) after es k in
    record {
      as_many = written_length (length w) after es k;
      good = i.good;
      holds = i.holds;
      beyond = i.beyond;
      only = i.only;
    }

pub one_call : OneCall
unfolding added_of withdrawn_of
one_call w words id low = (adding, withdrawing)
  where
    narrow : Narrow w
    narrow = narrow_words w words

    -- names within the limits fit into as many words as every register does
    enough : (name : List ℕ) → Bytes name → most_words ≤ length w → Lacks w id name → ⊥
    enough name bytes h d =
        let n = length_entries w in
        let few = d.few in
        let f = fit_added (entry_for id name) (entries_in w) (good_fit w d.good narrow) (name_fit name id d.judged bytes low) d.unused (omega arith) in
        let m = words_most (with_entry (entry_for id name) (entries_in w)) f in
        let o = d.over in
        omega arith

    adding : (name : List ℕ) → Bytes name → Adding w id name
    adding name bytes =
        record {
          judged = refl;
          refused = added_kept w id name;
          accepted = λ z. leaves w (words_added w id name) (with_entry (entry_for id name) (entries_in w)) (after_add w narrow id name low bytes z);
          room = λ good judged unused few. (added_fits w id name good judged unused few, added_over w id name good judged unused few);
          enough = λ h e. enough name bytes h (added_eight w id name e);
        }

    withdrawing : Withdrawing w id
    withdrawing =
        record {
          judged = refl;
          refused = withdrawn_kept w id;
          accepted = λ z. leaves w (words_withdrawn w id) (without_id id (entries_in w)) (after_withdraw w narrow id z);
        }

-- ---- what is live

-- names by ascending id with one more, as entries
entries_with : (r : IdName) (rs : List IdName) → map entry_named (with_id_name r rs) ≡ with_entry (entry_named r) (map entry_named rs)
unfolding with_id_name with_entry
entries_with r [] = refl
entries_with r (x ∷ rs) = by_test (leb r.id x.id) (entries_with r rs)
  where
    by_test : (b : Bool) → map entry_named (with_id_name r rs) ≡ with_entry (entry_named r) (map entry_named rs)
        → map entry_named (cond b (r ∷ x ∷ rs) (x ∷ with_id_name r rs))
        ≡ cond b (entry_named r ∷ entry_named x ∷ map entry_named rs) (entry_named x ∷ with_entry (entry_named r) (map entry_named rs))
    by_test true h = refl
    by_test false h = ap (λ (l : List Entry). entry_named x ∷ l) h

each_with : (r : IdName) (rs : List IdName) → Named r → Each Named rs → Each Named (with_id_name r rs)
unfolding with_id_name Each
each_with r [] k h = (k, tt)
each_with r (x ∷ rs) k h = by_test (leb r.id x.id) (each_with r rs k h.1)
  where
    by_test : (b : Bool) → Each Named (with_id_name r rs) → Each Named (cond b (r ∷ x ∷ rs) (x ∷ with_id_name r rs))
    by_test true g = (k, h)
    by_test false g = (h.0, g)

-- the words are the index of the names and blanks behind it
record Kept (w : List ℕ) (names : List IdName) : Type 0 where
  each : Each Named names
  room : ℕ
  written : Written room w (map entry_named names)

kept : {w : List ℕ} {names : List IdName} → Live w names → Kept w names
kept (built register words k) = record { each = lines_named register words k; room = length words; written = lines_written register words k }
kept (added w names l id name low bytes z) =
    let k = kept l in
    let r : IdName = record { id = id; name = name } in
    record {
      each = each_with r names (record { id = low; judged = (added_adds w id name z).judged; bytes = bytes }) k.each;
      room = k.room;
      written = rw (entries_with r names) (written_added k.room w (map entry_named names) k.written id name low bytes z);
    }
kept (withdrawn w names l id z) =
    let k = kept l in
    record {
      each = each_filter Named (λ (r : IdName). not (eqb r.id id)) names k.each;
      room = k.room;
      written = rw (filter_map (λ (e : Entry). not (eqb e.id id)) entry_named names) at (written_withdrawn k.room w (map entry_named names) k.written id z);
    }

-- ---- searches over the live names

-- as many names of a size as the live ones that have it
names_of_size : (w : List ℕ) (names : List IdName) → Holds w (of_id_names names) → (y : ℕ) → names_of w y ≡ count_of (λ (n : ℕ). eqb n y) (map size_of names)
names_of_size w names h y =
    ap (λ (n : ℕ). count_below n (λ (i : ℕ). eqb (name_size w i) y)) many
    ∙ sum_below_ext (length (map size_of names)) (λ (i : ℕ). cond (eqb (name_size w i) y) 1 0) (λ (i : ℕ). cond (eqb (get_or (map size_of names) i 0) y) 1 0)
    (λ i b. ap (λ (n : ℕ). cond (eqb n y) 1 0) (size i b))
    ∙ sym (count_index (λ (n : ℕ). eqb n y) (map size_of names))
  where
    es : List Entry
    es = map entry_named names

    many : name_count w ≡ length (map size_of names)
    many = h.count ∙ length-map names entry_named ∙ sym (length-map names size_of)

    size : (i : ℕ) → i < length (map size_of names) → name_size w i ≡ get_or (map size_of names) i 0
    size i b =
        let m = many in
        let c = h.count in
        h.size i (omega arith)
        ∙ sym (get_or-map (λ (e : Entry). length e.features) es i no_entry)
        ∙ ap (λ (l : List ℕ). get_or l i 0) (map-map (λ (e : Entry). length e.features) entry_named names)

work_over : {A : Type 0} (s : Lending A) (names : List IdName) (a : Question A) → Holds a.words (of_id_names names) → Demand3 s a → WorkOver names a
work_over s names a h d =
    record {
      a_size = λ y pos. by_test y pos (is_searched a.measure a.p a.q x y) refl;
      in_all = subst (λ (n : ℕ). steps a ≤ x * n) (h.count ∙ length-map names entry_named) d.in_all;
    }
  where
    x : ℕ
    x = length (features_of a.query)

    touches : ℕ → ℕ
    touches y = touches_of_size a.words a.measure a.p a.q (features_of a.query) y

    by_test : (y : ℕ) → 0 < y → (b : Bool) → is_searched a.measure a.p a.q x y ≡ b
        → touches y ≤ x * count_of (λ (n : ℕ). eqb n y) (map size_of names)
    by_test y pos true e =
        let b = d.a_size y pos e in
        subst (λ (n : ℕ). touches y ≤ x * n) (names_of_size a.words names h y) (le_trans b.0 b.1)
    by_test y pos false e = let z = d.no_size y e in omega arith

demands_over : {A : Type 0} (s : Lending A) (names : List IdName) (a : Question A) → Holds a.words (of_id_names names) → Demands A s a
    → (Bytes a.query → Answered s a → Listing s (of_id_names names) a) → DemandsOver names A s a
demands_over s names a h d l =
    record {
      two = λ b n. (d.two b n, l b n);
      three = λ b z. (d.three b z, work_over s names a h (d.three b z));
    }

alive : (w : List ℕ) (names : List IdName) → Kept w names → Alive w names
alive w names k =
    record {
      fresh = (
        register_accepted names k.each k.written.fit w fits,
        register_words names k.each k.written.fit w fits ∙ ap (λ (n : ℕ). pad_to n (words_of es)) long ∙ sym k.written.words,
      );
      good = index.good;
      holds = index.holds;
      live = λ id. written_live k.room w es k.written id ∙ ap (member id) (map-map (λ (e : Entry). e.id) entry_named names);
      postings = written_postings k.room w es k.written
          ∙ length_triples es
          ∙ sum_map (λ (e : Entry). length e.features) entry_named names;
      listed = (
        λ a b n. (listings (of_id_names names)).0 (with_words w a) index.holds b n,
        λ a b n. (listings (of_id_names names)).1 (with_words w a) index.holds b n,
      );
      back = withdraw_add k.room w es k.written;
      index = index;
      searched = (
        λ a. demands_over columns names (with_words w a) index.holds (searches.0 (with_words w a)) (λ b n. (listings (of_id_names names)).0 (with_words w a) index.holds b n),
        λ a. demands_over records names (with_words w a) index.holds (searches.1 (with_words w a)) (λ b n. (listings (of_id_names names)).1 (with_words w a) index.holds b n),
      );
    }
  where
    es : List Entry
    es = map entry_named names

    long : length w ≡ k.room
    long = written_length k.room w es k.written

    fits : length (words_of es) ≤ length w
    fits = let a = k.written.fits in let b = long in omega arith

    index : TheIndex w (of_id_names names)
    index = the_index k.room w es k.written

pub all_live : AllLive
all_live w names l = alive w names (kept l)

-- ---- any run of calls

-- a call leaves a good index, with as many postings more or less as its name has features
step : (w : List ℕ) → Good w → Narrow w → (c : Call) → Callable c
    → Good (words_then w c) × Narrow (words_then w c) × (posting_count (words_then w c) + size_withdrawn w c ≡ posting_count w + size_added w c)
unfolding Callable words_then size_added size_withdrawn
step w g narrow (add id name) h =
    ⊎_elim
    (λ (z : added_of w id name ≡ 0).
    let a = after_add w narrow id name h.0 h.1 z in
    let es = with_entry (entry_for id name) (entries_in w) in
    let p = postings_add w narrow id name h.0 h.1 z in (
      written_good (length w) (words_added w id name) es a,
      written_narrow (length w) (words_added w id name) es a,
      rw (eq-eqb (added_of w id name) 0 z) (omega arith),
    ))
    (λ (n : added_of w id name ≡ 0 → ⊥).
    let e = added_kept w id name n in
    (rw e g, rw e narrow, rw (ne_eqb (added_of w id name) 0 n, e)))
    (eq_or_ne (added_of w id name) 0)
step w g narrow (withdraw id) h =
    ⊎_elim
    (λ (z : withdrawn_of w id ≡ 0).
    let a = after_withdraw w narrow id z in
    let es = without_id id (entries_in w) in
    let p = postings_withdraw w narrow id z in (
      written_good (length w) (words_withdrawn w id) es a,
      written_narrow (length w) (words_withdrawn w id) es a,
      rw (eq-eqb (withdrawn_of w id) 0 z) (omega arith),
    ))
    (λ (n : withdrawn_of w id ≡ 0 → ⊥).
    let e = withdrawn_kept w id n in
    (rw e g, rw e narrow, rw (ne_eqb (withdrawn_of w id) 0 n, e)))
    (eq_or_ne (withdrawn_of w id) 0)

postings_run : (w : List ℕ) → Good w → Narrow w → (calls : List Call) → Each Callable calls
    → posting_count (words_last w calls) + sizes_withdrawn w calls ≡ posting_count w + sizes_added w calls
unfolding words_last sizes_added sizes_withdrawn
postings_run w g narrow [] h = refl
postings_run w g narrow (c ∷ cs) h =
    let s = step w g narrow c (each_first Callable c cs h) in
    let a = s.2 in
    let b = postings_run (words_then w c) s.0 s.1 cs (each_rest Callable c cs h) in
    omega arith

pub postings_held : PostingsHeld
unfolding lines_of sum_of
postings_held words calls k h =
    let w = words_after [] words in
    let a = all_live w (id_names []) (built [] words k) in
    let narrow = written_narrow (length words) w (map entry_named (id_names [])) (lines_written [] words k) in
    let p = postings_run w a.good narrow calls h in
    let e = a.postings in
    omega arith

-- ---- sizes of names with one more or less

sizes_with : (r : IdName) (rs : List IdName) → sum_of (map size_of (with_id_name r rs)) ≡ size_of r + sum_of (map size_of rs)
unfolding with_id_name sum_of
sizes_with r [] = refl
sizes_with r (x ∷ rs) = by_test (leb r.id x.id) (sizes_with r rs)
  where
    by_test : (b : Bool) → sum_of (map size_of (with_id_name r rs)) ≡ size_of r + sum_of (map size_of rs)
        → sum_of (map size_of (cond b (r ∷ x ∷ rs) (x ∷ with_id_name r rs))) ≡ size_of r + (size_of x + sum_of (map size_of rs))
    by_test true h = refl
    by_test false h = omega arith

abbrev ids : List IdName → List ℕ
ids rs = map (λ (r : IdName). r.id) rs

sizes_absent : (id : ℕ) (rs : List IdName) → member id (ids rs) ≡ false → sum_of (map size_of (without_id_name id rs)) ≡ sum_of (map size_of rs)
unfolding filter_of sum_of
sizes_absent id [] m = refl
sizes_absent id (r ∷ rs) m = by_test (eqb r.id id) refl (sizes_absent id rs (absent_rest r.id id (ids rs) m))
  where
    by_test : (b : Bool) → eqb r.id id ≡ b → sum_of (map size_of (without_id_name id rs)) ≡ sum_of (map size_of rs)
        → sum_of (map size_of (cond (not b) (r ∷ without_id_name id rs) (without_id_name id rs))) ≡ size_of r + sum_of (map size_of rs)
    by_test true e h = absurd (false≢true (sym m ∙ ap (λ (x : ℕ). member x (ids (r ∷ rs))) (sym (eqb-true r.id id e)) ∙ member_head r.id (ids rs)))
    by_test false e h = omega arith

sizes_without : (id : ℕ) (rs : List IdName) → Ascending (ids rs) → member id (ids rs) ≡ true
    → sum_of (map size_of (without_id_name id rs)) + length (features_of (name_under id rs)) ≡ sum_of (map size_of rs)
unfolding filter_of sum_of name_under
sizes_without id [] a m = absurd (member_nil id m)
sizes_without id (r ∷ rs) a m = by_test (eqb r.id id) refl (sizes_without id rs (ascending_rest r.id (ids rs) a))
  where
    by_test : (b : Bool) → eqb r.id id ≡ b
        → (member id (ids rs) ≡ true → sum_of (map size_of (without_id_name id rs)) + length (features_of (name_under id rs)) ≡ sum_of (map size_of rs))
        → sum_of (map size_of (cond (not b) (r ∷ without_id_name id rs) (without_id_name id rs))) + length (features_of (cond b r.name (name_under id rs)))
        ≡ size_of r + sum_of (map size_of rs)
    by_test true e k =
        let h = sizes_absent id rs (subst (λ (x : ℕ). member x (ids rs) ≡ false) (eqb-true r.id id e) (ascending_first r.id (ids rs) a)) in
        omega arith
    by_test false e k =
        ⊎_elim
        (λ (q : id ≡ r.id). absurd (eqb-false r.id id e (sym q)))
        (λ (n : member id (ids rs) ≡ true). let h = k n in omega arith)
        (member_cases r.id id (ids rs) m)

-- ---- any run of calls, by the names

live_then_lem : (w : List ℕ) (names : List IdName) → Live w names → (c : Call) → Callable c → Live (words_then w c) (live_then w names c)
unfolding Callable words_then live_then
live_then_lem w names l (add id name) h =
    ⊎_elim
    (λ (z : added_of w id name ≡ 0). rw (eq-eqb (added_of w id name) 0 z) (added w names l id name h.0 h.1 z))
    (λ (n : added_of w id name ≡ 0 → ⊥). rw (ne_eqb (added_of w id name) 0 n, added_kept w id name n) l)
    (eq_or_ne (added_of w id name) 0)
live_then_lem w names l (withdraw id) h =
    ⊎_elim
    (λ (z : withdrawn_of w id ≡ 0). rw (eq-eqb (withdrawn_of w id) 0 z) (withdrawn w names l id z))
    (λ (n : withdrawn_of w id ≡ 0 → ⊥). rw (ne_eqb (withdrawn_of w id) 0 n, withdrawn_kept w id n) l)
    (eq_or_ne (withdrawn_of w id) 0)

-- the sizes of the live names after a call
sizes_then : (w : List ℕ) (names : List IdName) → Live w names → (c : Call)
    → sum_of (map size_of (live_then w names c)) + size_taken w names c ≡ sum_of (map size_of names) + size_added w c
unfolding live_then size_added size_taken
sizes_then w names l (add id name) = by_test (eqb (added_of w id name) 0)
  where
    r : IdName
    r = record { id = id; name = name }

    by_test : (b : Bool) → sum_of (map size_of (cond b (with_id_name r names) names)) + 0 ≡ sum_of (map size_of names) + cond b (length (features_of name)) 0
    by_test true = let s = sizes_with r names in omega arith
    by_test false = refl
sizes_then w names l (withdraw id) = by_test (eqb (withdrawn_of w id) 0) refl
  where
    by_test : (b : Bool) → eqb (withdrawn_of w id) 0 ≡ b
        → sum_of (map size_of (cond b (without_id_name id names) names)) + cond b (length (features_of (name_under id names))) 0 ≡ sum_of (map size_of names) + 0
    by_test true e =
        let z = eqb-true (withdrawn_of w id) 0 e in
        let up = subst Ascending (map-map (λ (x : Entry). x.id) entry_named names) (kept l).written.fit.ids in
        let s = sizes_without id names up (sym ((all_live w names l).live id) ∙ (withdrawn_live w id z).1) in
        omega arith
    by_test false e = refl

run : (w : List ℕ) (names : List IdName) → Live w names → (calls : List Call) → Each Callable calls
    → Live (words_last w calls) (live_last w names calls)
    × (sum_of (map size_of (live_last w names calls)) + sizes_taken w names calls ≡ sum_of (map size_of names) + sizes_added w calls)
unfolding words_last live_last sizes_added sizes_taken
run w names l [] h = (l, refl)
run w names l (c ∷ cs) h =
    let s = sizes_then w names l c in
    let r = run (words_then w c) (live_then w names c) (live_then_lem w names l c (each_first Callable c cs h)) cs (each_rest Callable c cs h) in
    let t = r.1 in
    (r.0, omega arith)

pub any_run : AnyRun
any_run w names l calls h =
    let r = run w names l calls h in
    let a = all_live (words_last w calls) (live_last w names calls) r.0 in
    let s = r.1 in
    let p = a.postings in
    let q = (all_live w names l).postings in
    record { alive = a; held = omega arith }

pub from_empty : AnyRunFromEmpty
unfolding sum_of
from_empty words calls k h =
    let w = words_after [] words in
    let l : Live w [] = rw lines_nil at (built [] words k) in
    let r = any_run w [] l calls h in
    let e = (all_live w [] l).postings in
    let p = r.held in
    record { alive = r.alive; held = omega arith }
