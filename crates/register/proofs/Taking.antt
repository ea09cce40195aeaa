-- The lines one after the other: what has been reached, and what one line more does to it.
-- Assumes nothing.
use mathlib.Core.Path.{◌≡◌, refl, sym, ap, ap₂, subst, ◌∙◌}
use mathlib.Core.Bool.{Bool, true, true≢false}
use mathlib.Core.List.{List, [], ◌∷◌, ◌++◌, map, map-append}
use Prim.Native.Nat.{ℕ, zero, suc, ◌+◌, ◌*◌, ◌≤◌, ◌<◌, min}
use native.Mathlib.Numerals.{add-one}
use native.Mathlib.Omega.{arith}
use borrow.Author.Tests.{eq-eqb, ne_eqb}
use lib.ListN.{length, get_or, take, drop, set, length-append}
use lib.Seq.{take_all, take_at, drop_at, take-suc-set, take-paste, paste}
use lib.Dec.{eqb}
use Rattle.std.specs.List.{IsFirstMatchOrLen}
use Rattle.names.specs.Names.{judge_of}
use Rattle.names.specs.Features.{features_of, most_features}
use Rattle.names.proofs.Laws.{length_features, size_most}
use Rattle.laws.specs.Lists.{sum_of}
use Rattle.laws.proofs.Lists.{length_nil}
use Rattle.fields.specs.Layouts.{read_of, head_size}
use Rattle.fields.proofs.Laws.{read_fits}
use Rattle.fields.proofs.Layouts.{field_below, length_name, read_good}
use Rattle.frames.specs.Frames.{name_frame}
use Rattle.index.specs.Good.{most_names, most_postings, largest_id}
use Rattle.index_writer.specs.Built.{Entry, no_entry, EntryFit, word_of}
use Rattle.index_writer.specs.Keys.{place_span, keys_of, keys_from, all_keys}
use Rattle.index_writer.proofs.Keys.{keys_append, length_keys, keys_triples}
use Rattle.index_writer.proofs.Entries.{length_entries}
use Rattle.index_writer.proofs.Built.{fit_nil, fit_snoc, name_fit}
use Rattle.lines.specs.Lines.{line_feed, lines_of, line_length}
use Rattle.register.specs.Build.{id_in, name_of, next_from, next_id, judge_line, entry_of, Taken, take_lines, taken_of}
use Rattle.register.specs.Steps.{KeysFit, Tables, Read, Heard, HeardIn}
use Rattle.std.specs.Prelude.{Result, Ok, Err, MatchResult, is_ok}
use Rattle.refusals.specs.declared.Refusal.{Refusal}
use Rattle.refusals.specs.declared.LineRefusal.{LineRefusal}
use Rattle.refusals.specs.Refusals.{refusal_number}
use Rattle.frames.specs.declared.Name.{Name}
use Rattle.lines.proofs.Lines.{lines_nil, is_feed, line_cut, lines_cut_at}
use Rattle.register.proofs.Judging.{good_line}

-- ---- the least id that may follow

pub next_snoc : (n : ℕ) (es : List Entry) (e : Entry) → next_from n (es ++ (e ∷ [])) ≡ e.id + 1
unfolding next_from
next_snoc n [] e = refl
next_snoc n (x ∷ es) e = next_snoc (x.id + 1) es e

pub next_last : (n : ℕ) (es : List Entry) (i : ℕ) → i + 1 ≡ length es → next_from n es ≡ (get_or es i no_entry).id + 1
unfolding next_from
next_last n [] i h = absurd (omega arith)
next_last n (x ∷ []) zero h = refl
next_last n (x ∷ []) (suc i) h = absurd (omega arith)
next_last n (x ∷ y ∷ es) zero h = absurd (omega arith)
next_last n (x ∷ y ∷ es) (suc i) h = next_last (x.id + 1) (y ∷ es) i (omega arith)

-- ---- one line more

pub take_none : (es : List Entry) → take_lines es [] ≡ record { number = 0; line = 0; entries = es }
unfolding take_lines
take_none es = refl

pub take_bad : (es : List Entry) (l : List ℕ) (ls : List (List ℕ)) → (judge_line (length es) (next_id es) l ≡ 0 → ⊥)
    → take_lines es (l ∷ ls) ≡ record { number = judge_line (length es) (next_id es) l; line = length es + 1; entries = [] }
unfolding take_lines
take_bad es l ls n = rw (ne_eqb (judge_line (length es) (next_id es) l) 0 n)

pub take_good : (es : List Entry) (l : List ℕ) (ls : List (List ℕ)) → judge_line (length es) (next_id es) l ≡ 0
    → take_lines es (l ∷ ls) ≡ take_lines (es ++ (entry_of l ∷ [])) ls
unfolding take_lines
take_good es l ls z = rw (eq-eqb (judge_line (length es) (next_id es) l) 0 z)

-- ---- the tables with one name more

-- a line has two bytes and more for each feature of its name
pub line_half : (count next : ℕ) (line : List ℕ) → judge_line count next line ≡ 0 → 2 * length (features_of (name_of line)) ≤ length line
unfolding head_size sum_of
line_half count next line z =
    let g = good_line count next line z in
    let f = length_features (name_of line) g.1 in
    let n = length_name name_frame line g.0 refl in
    omega arith

pub id_most : (count next : ℕ) (line : List ℕ) → judge_line count next line ≡ 0 → id_in line ≤ largest_id
id_most count next line z =
    let f = (good_line count next line z).0 in
    let b = field_below name_frame line 255 (read_of name_frame line 255) refl 0 in
    let e = ap (λ (r : Rattle.fields.specs.Layouts.Reading). get_or r.fields 0 0) (read_good name_frame line 255 f (read_fits name_frame line f).short) in
    omega arith

pub entry_fit : (count next : ℕ) (line : List ℕ) → judge_line count next line ≡ 0 → EntryFit (entry_of line)
entry_fit count next line z =
    let g = good_line count next line z in
    name_fit (name_of line) (id_in line) g.1 (read_fits name_frame line g.0).bytes (id_most count next line z)

module _ (es : List Entry) (names keys : List ℕ) (n p : ℕ) (t : Tables es names keys n p) (line : List ℕ) (z : judge_line n (next_id es) line ≡ 0) where
  pub tables_room : (n < most_names) × (p + most_features ≤ most_postings)
  tables_room =
      let g = (good_line n (next_id es) line z).3 in
      let a = length_entries es t.fit.each in
      let b = t.count in
      let d = t.sum in
      let k = keys_triples 0 es in
      (g, omega arith)

  pub tables_snoc : (names₁ keys₁ : List ℕ) (p₁ : ℕ) → n < length names → p + length (features_of (name_of line)) ≤ length keys
      → p₁ ≡ p + length (features_of (name_of line))
      → names₁ ≡ set names n (id_in line * 256 + length (features_of (name_of line)))
      → keys₁ ≡ paste keys p (map (λ (f : ℕ). f * place_span + n) (features_of (name_of line))) (length (features_of (name_of line)))
      → Tables (es ++ (entry_of line ∷ [])) names₁ keys₁ (n + 1) p₁
  unfolding keys_of
  tables_snoc names₁ keys₁ p₁ hn hp ep en et =
      let g = good_line n (next_id es) line z in
      let b = t.count in
      let f = entry_fit n (next_id es) line z in
      let u = t.sum in
      let c : 0 + length es ≡ n = omega arith in
      let one : all_keys (es ++ (entry_of line ∷ [])) ≡ all_keys es ++ keys_of n (entry_of line) =
      keys_append 0 es (entry_of line) ∙ ap (λ (i : ℕ). all_keys es ++ keys_of i (entry_of line)) c in
      let k = length_keys n (entry_of line) in
      let sum = ap length one ∙ length-append (all_keys es) (keys_of n (entry_of line)) in
      record {
        fit = fit_snoc es (entry_of line) t.fit f (let q = g.3 in omega arith) (λ i h. (let q = next_last 0 es i h in let r = g.2 in omega arith));
        count = (let q = length-append es (entry_of line ∷ []) in omega arith);
        words =
            ap₂ (λ (x : ℕ) (l : List ℕ). take x l) (add-one n) en
            ∙ take-suc-set names n (id_in line * 256 + length (features_of (name_of line))) hn
            ∙ ap (λ (l : List ℕ). l ++ (word_of (entry_of line) ∷ [])) t.words
            ∙ sym (map-append word_of es (entry_of line ∷ []));
        sum = omega arith;
        postings =
            ap₂ (λ (x : ℕ) (l : List ℕ). take x l) ep et
            ∙ take-paste keys p (keys_of n (entry_of line)) (length (features_of (name_of line))) (omega arith) (omega arith)
            ∙ ap₂ (λ (x y : List ℕ). x ++ y) t.postings (take_all (length (features_of (name_of line))) (keys_of n (entry_of line)) (omega arith))
            ∙ sym one;
      }

-- ---- what has been reached

-- the names of the lines before the rest, and what the rest comes to
pub record Reached (register rest names keys : List ℕ) (n p next : ℕ) : Type 0 where
  pub es : List Entry
  pub tables : Tables es names keys n p
  pub least : next ≡ next_id es
  pub comes : take_lines es (lines_of rest) ≡ taken_of register
  pub half : 2 * p + length rest ≤ length register

pub reached_nil : (register names keys : List ℕ) → Reached register register names keys 0 0 0
unfolding taken_of next_from keys_from
reached_nil register names keys =
    record {
      es = [];
      tables = record { fit = fit_nil; count = refl; words = refl; sum = refl; postings = refl };
      least = refl;
      comes = refl;
      half = omega arith;
    }

pub reached_all : {register rest names keys : List ℕ} {n p next : ℕ} → Reached register rest names keys n p next → length rest ≡ 0 → Read register names keys 0 0 n p
reached_all {register} {rest} {names} {keys} {n} {p} {next} r h =
    let e : take_lines r.es [] ≡ taken_of register = ap (take_lines r.es) (sym (ap lines_of (length_nil rest h) ∙ lines_nil)) ∙ r.comes in
    let f = sym (take_none r.es) ∙ e in
    record {
      number = ap (λ (x : Taken). x.number) f;
      line = ap (λ (x : Taken). x.line) f;
      tables = λ q. subst (λ (x : Taken). Tables x.entries names keys n p) f r.tables;
    }

-- ---- one turn

-- the first line of the rest, what is more, and the line's number
pub record Turn (register rest names keys line more : List ℕ) (n p next number : ℕ) : Type 0 where
  pub reach : Reached register rest names keys n p next
  pub parts : rest ≡ line ++ more
  pub stretch : length line ≡ line_length rest
  pub some : 0 < length rest
  pub judged : number ≡ judge_line n next line

-- it is the first line where the library cut it
pub turn_cut : {register rest names keys line more : List ℕ} {n p next number i : ℕ} → Reached register rest names keys n p next → rest ≡ line ++ more
    → length line ≡ min (i + 1) (length rest) → IsFirstMatchOrLen is_feed rest i → 0 < length rest → number ≡ judge_line n next line
    → Turn register rest names keys line more n p next number
turn_cut {rest} {i} r e l f h j = record { reach = r; parts = e; stretch = l ∙ line_cut rest i f; some = h; judged = j }

module _ {register rest names keys line more : List ℕ} {n p next number : ℕ} (t : Turn register rest names keys line more n p next number) where
  turn_lines : lines_of rest ≡ line ∷ lines_of more
  turn_lines = lines_cut_at rest line more t.parts t.stretch t.some

  turn_judged : number ≡ judge_line (length t.reach.es) (next_id t.reach.es) line
  turn_judged = t.judged ∙ ap₂ (λ (x y : ℕ). judge_line x y line) t.reach.tables.count t.reach.least

  pub turn_few : n ≤ most_names
  turn_few =
      let c = t.reach.tables.count in
      let f = t.reach.tables.fit.few in
      omega arith

  -- a bad line ends the reading
  pub turn_bad : (number ≡ 0 → ⊥) → (names₁ keys₁ : List ℕ) → Read register names₁ keys₁ number (n + 1) 0 0
  turn_bad b names₁ keys₁ =
      let r = t.reach in
      let f = sym (take_bad r.es line (lines_of more) (λ q. b (turn_judged ∙ q))) ∙ ap (take_lines r.es) (sym turn_lines) ∙ r.comes in
      record {
        number = turn_judged ∙ ap (λ (x : Taken). x.number) f;
        line = ap (λ (x : ℕ). x + 1) r.tables.count ∙ ap (λ (x : Taken). x.line) f;
        tables = λ q. absurd (b q);
      }

  -- a good line
  module _ (z : number ≡ 0) where
    turn_good : judge_line n (next_id t.reach.es) line ≡ 0
    turn_good = ap (λ (y : ℕ). judge_line n y line) (sym t.reach.least) ∙ sym t.judged ∙ z

    pub turn_name : judge_of (name_of line) ≡ 0
    turn_name = (good_line n next line (sym t.judged ∙ z)).1

    pub turn_id : id_in line ≤ largest_id
    turn_id = id_most n next line (sym t.judged ∙ z)

    turn_half : 2 * (p + length (features_of (name_of line))) + length more ≤ length register
    turn_half =
        let h = line_half n next line (sym t.judged ∙ z) in
        let e = ap length t.parts ∙ length-append line more in
        let before = t.reach.half in
        omega arith

    pub turn_room : (k : ℕ) → KeysFit (length register) k → (n < most_names) × (p + length (features_of (name_of line)) ≤ k)
    turn_room k fit =
        let r = tables_room t.reach.es names keys n p t.reach.tables line turn_good in
        let r1 = r.1 in
        let m = size_most (name_of line) in
        let h = turn_half in
        (r.0, fit (p + length (features_of (name_of line))) (omega arith) (omega arith))

    pub turn_more : (names₁ keys₁ : List ℕ) (p₁ id₁ : ℕ) → n < length names → p + length (features_of (name_of line)) ≤ length keys
        → id₁ ≡ id_in line
        → p₁ ≡ p + length (features_of (name_of line))
        → names₁ ≡ set names n (id_in line * 256 + length (features_of (name_of line)))
        → keys₁ ≡ paste keys p (map (λ (f : ℕ). f * place_span + n) (features_of (name_of line))) (length (features_of (name_of line)))
        → Reached register more names₁ keys₁ (n + 1) p₁ (id₁ + 1)
    turn_more names₁ keys₁ p₁ id₁ hn hp ei ep en et =
        let r = t.reach in
        record {
          es = r.es ++ (entry_of line ∷ []);
          tables = tables_snoc r.es names keys n p r.tables line turn_good names₁ keys₁ p₁ hn hp ep en et;
          least = ap (λ (x : ℕ). x + 1) ei ∙ sym (next_snoc 0 r.es (entry_of line));
          comes = sym (take_good r.es line (lines_of more) (sym turn_judged ∙ z)) ∙ ap (take_lines r.es) (sym turn_lines) ∙ r.comes;
          half = (let h = turn_half in let e = ep in omega arith);
        }

-- ---- what is judged, once a refusal has its line

abbrev named : Name → Result Name LineRefusal
named x = Ok x

abbrev placed : LineRefusal → Result Name LineRefusal
placed l = Err l

name_or : Name → Result Name LineRefusal → Name
name_or d (Ok x) = x
name_or d (Err l) = d

module _ (count next : ℕ) (line buffer : List ℕ) where
  pub heard_ok : (r : Result Name Refusal) (Q : Refusal → Type 0) (x : Name) → true ≡ is_ok r → MatchResult r (λ y. named x ≡ named y) Q
      → HeardIn count next line buffer r → Heard count next line buffer 0 x.id x.len
  unfolding name_or
  heard_ok (Ok y) Q x o m h = subst (λ (z : Name). Heard count next line buffer 0 z.id z.len) (sym (ap (name_or x) m)) h
  heard_ok (Err e) Q x o m h = absurd (true≢false o)

  pub heard_err : (r : Result Name Refusal) (Q : Refusal → Type 0) (l : LineRefusal) (k : ℕ) → MatchResult r (λ y. placed l ≡ named y) Q
      → ((e : Refusal) → Q e → l ≡ record { refusal = e; line = k })
      → HeardIn count next line buffer r → (refusal_number l.refusal ≡ judge_line count next line) × (l.line ≡ k)
  heard_err (Ok y) Q l k m f h = absurd (true≢false (sym (ap is_ok m)))
  heard_err (Err e) Q l k m f h =
      let g = f e m in
      (ap (λ (d : LineRefusal). refusal_number d.refusal) g ∙ h.number, ap (λ (d : LineRefusal). d.line) g)
