-- The names of an accepted register, and the register of names: its lines are those that are written of them, each says its own id and its own name,
-- so a build takes them all and leaves the index of these names.
-- Assumes nothing.
use mathlib.Core.Path.{◌≡◌, refl, sym, ap, ap₂, subst, ◌∙◌}
use mathlib.Core.Logic.{⊎_elim}
use mathlib.Core.Bool.{true, false≢true}
use mathlib.Core.List.{List, [], ◌∷◌, ◌++◌, map, map-map, map-append, append-nil, append_assoc}
use Prim.Native.Nat.{ℕ, ◌≤◌, ◌<◌}
use native.Mathlib.Omega.{arith}
use borrow.Author.Tests.{eqb-true}
use lib.ListN.{length, get_or, take, length-append}
use Rattle.laws.specs.Lists.{Ascending}
use Rattle.laws.specs.Each.{Each}
use Rattle.laws.proofs.Below.{and_right}
use Rattle.laws.proofs.Members.{member_head, each_first, each_rest, each_of}
use Rattle.laws.proofs.Order.{le_or_lt}
use Rattle.laws.proofs.Sort.{ascending_across}
use Rattle.names.specs.Names.{judge_of}
use Rattle.names.proofs.Laws.{good_name}
use Rattle.hex_digits.specs.Lines.{Bytes, is_digit, well_formed}
use Rattle.hex_digits.proofs.Lines.{well_formed_length, feed_last}
use Rattle.fields.specs.Layouts.{Fitting, line_of, is_frame}
use Rattle.fields.proofs.Layouts.{frame_well_formed}
use Rattle.fields.proofs.Laws.{fitting_named, frame_written, fields_written, name_written, read_fits}
use Rattle.frames.specs.Frames.{name_frame}
use Rattle.index.specs.Good.{largest_id}
use Rattle.index_writer.specs.Built.{Entry, words_of, Fit}
use Rattle.index_writer.specs.Written.{pad_to}
use Rattle.index_writer.proofs.Entries.{id_member}
use Rattle.upkeep.specs.Upkeep.{entry_for}
use Rattle.upkeep.proofs.Names.{Written}
use Rattle.lines.specs.Lines.{lines_of, nth_line}
use Rattle.lines.proofs.Lines.{lines_nil}
use Rattle.lines.proofs.Cut.{Line, first_cut}
use Rattle.register.specs.Build.{id_in, name_of, entry_of, next_from, next_id, judge_nth, Taken, take_lines, taken_of, entries_of, words_after}
use Rattle.register.proofs.Judging.{judged_good, good_line}
use Rattle.register.proofs.Taking.{id_most, next_last, take_none, take_good}
use Rattle.register.proofs.First.{each_good, none_bad_fits}
use Rattle.register.proofs.Laws.{fit_register, accepted_lines, accepted_words}
use Rattle.register.proofs.Names.{accepted_entries, accepted_index}
use Rattle.register.specs.Build.{Built}
use Rattle.statements.specs.Demands.{Accepted}
use Rattle.statements.specs.Former.{IdName}
use Rattle.statements.specs.Live.{id_names, register_of}
use Rattle.statements.proofs.Building.{builds}

-- a name that a register can hold
pub record Named (r : IdName) : Type 0 where
  pub id : r.id ≤ largest_id
  pub judged : judge_of r.name ≡ 0
  pub bytes : Bytes r.name

abbrev pub entry_named : IdName → Entry
entry_named r = entry_for r.id r.name

-- ---- an accepted register

-- what a line says
abbrev said_in : List ℕ → IdName
said_in l = record { id = id_in l; name = name_of l }

module _ (register words : List ℕ) (accepted : Accepted register words) where
  good : (i : ℕ) → i < length (lines_of register) → judge_nth register i ≡ 0
  good = each_good register (accepted_lines register words accepted)

  pub lines_named : Each Named (id_names register)
  unfolding Each
  lines_named = image (lines_of register) (each_of (λ (l : List ℕ). Named (said_in l)) (lines_of register) [] named)
    where
      named : (i : ℕ) → i < length (lines_of register) → Named (said_in (nth_line register i))
      named i h =
          let next = next_id (map entry_of (take i (lines_of register))) in
          let g = good_line i next (nth_line register i) (good i h) in
          record { id = id_most i next (nth_line register i) (good i h); judged = g.1; bytes = (read_fits name_frame (nth_line register i) g.0).bytes }

      image : (ls : List (List ℕ)) → Each (λ (l : List ℕ). Named (said_in l)) ls → Each Named (map said_in ls)
      image [] h = tt
      image (l ∷ ls) h = (h.0, image ls h.1)

  pub lines_written : Written (length words) (words_after register words) (map entry_named (id_names register))
  lines_written =
      rw (map-map entry_named said_in (lines_of register))
      (record {
        fit = subst Fit (accepted_entries register words accepted) (fit_register register (accepted_lines register words accepted));
        fits = ⊎_elim
            (λ (h : length (words_of (map entry_of (lines_of register))) ≤ length words). h)
            (λ (h : length words < length (words_of (map entry_of (lines_of register)))).
            let e = ap (λ (b : Built). b.number) ((builds register words).no_room good h) in absurd (omega arith))
            (le_or_lt (length (words_of (map entry_of (lines_of register)))) (length words));
        words = accepted_index register words accepted;
      })

-- ---- one line

-- digits and then a line feed are one line
whole_line : (l : List ℕ) → well_formed l ≡ true → Line l
unfolding well_formed
whole_line [] e = absurd (false≢true e)
whole_line (a ∷ []) e = record { text = []; plain = tt; ended = ap (λ (x : ℕ). x ∷ []) (eqb-true a 10 e) }
whole_line (a ∷ b ∷ l) e =
    let w : well_formed l ≡ true = and_right (is_digit b) (well_formed l) (and_right (is_digit a) _ e) in
    let r = whole_line l w in
    let n = well_formed_length l w in
    record {
      text = a ∷ b ∷ r.text;
      plain = (λ q. (let k = feed_last (a ∷ b ∷ l) e 0 q in omega arith), (λ q. (let k = feed_last (a ∷ b ∷ l) e 1 q in omega arith), r.plain));
      ended = ap (λ (t : List ℕ). a ∷ b ∷ t) r.ended;
    }

-- the line of a name
abbrev line_for : IdName → List ℕ
line_for r = line_of name_frame (r.id ∷ []) r.name

module _ (r : IdName) (k : Named r) where
  fitting : Fitting name_frame (r.id ∷ []) r.name
  fitting =
      let s = (good_name r.name k.judged).1 in
      let b = k.id in
      let low : r.id < 65536 = omega arith in
      fitting_named name_frame (r.id ∷ []) r.name refl (omega arith) (low, tt) k.bytes (omega arith)

  frame : is_frame name_frame (line_for r) ≡ true
  frame = frame_written name_frame (r.id ∷ []) r.name fitting

  line : Line (line_for r)
  line = whole_line (line_for r) (frame_well_formed name_frame (line_for r) frame)

  id_back : id_in (line_for r) ≡ r.id
  id_back = ap (λ (f : List ℕ). get_or f 0 0) (fields_written name_frame (r.id ∷ []) r.name fitting)

  name_back : name_of (line_for r) ≡ r.name
  name_back = name_written name_frame (r.id ∷ []) r.name fitting

  entry_back : entry_of (line_for r) ≡ entry_named r
  entry_back = ap₂ entry_for id_back name_back

-- ---- all lines

register_lines : (rs : List IdName) → Each Named rs → lines_of (register_of rs) ≡ map line_for rs
unfolding register_of
register_lines [] h = lines_nil
register_lines (r ∷ rs) h =
    first_cut (line_for r) (register_of rs) (line r (each_first Named r rs h)) ∙ ap (λ (l : List (List ℕ)). line_for r ∷ l) (register_lines rs (each_rest Named r rs h))

-- an id may follow those that are below it
next_low : (es : List Entry) (e : Entry) (fs : List Entry) → Ascending (map (λ (x : Entry). x.id) (es ++ (e ∷ fs))) → next_id es ≤ e.id
unfolding next_from
next_low [] e fs a = omega arith
next_low (x ∷ es) e fs a =
    let n = next_last 0 (x ∷ es) (length es) (omega arith) in
    let up = subst Ascending (map-append (λ (y : Entry). y.id) (x ∷ es) (e ∷ fs)) a in
    let b = ascending_across (map (λ (y : Entry). y.id) (x ∷ es)) (map (λ (y : Entry). y.id) (e ∷ fs)) up _ e.id
    (id_member (x ∷ es) (length es) (omega arith)) (member_head e.id (map (λ (y : Entry). y.id) fs)) in
    omega arith

-- the lines of names that are within the limits behind others are good
names_taken : (es : List Entry) (rs : List IdName) → Each Named rs → Fit (es ++ map entry_named rs)
    → take_lines es (map line_for rs) ≡ record { number = 0; line = 0; entries = es ++ map entry_named rs }
names_taken es [] h fit = take_none es ∙ ap (λ (l : List Entry). record { number = 0; line = 0; entries = l }) (sym (append-nil es))
names_taken es (r ∷ rs) h fit =
    take_good es (line_for r) (map line_for rs)
    (judged_good (length es) (next_id es) (line_for r) (frame r k) (ap judge_of (name_back r k) ∙ k.judged) (let i = id_back r k in let n = next_low es (entry_named r) (map entry_named rs) fit.ids in omega arith)
    (let n = length-append es (map entry_named (r ∷ rs)) in let f = fit.few in omega arith))
    ∙ ap (λ (e : Entry). take_lines (es ++ (e ∷ [])) (map line_for rs)) (entry_back r k)
    ∙ names_taken (es ++ (entry_named r ∷ [])) rs (each_rest Named r rs h) (subst Fit (sym seam) fit)
    ∙ ap (λ (l : List Entry). record { number = 0; line = 0; entries = l }) seam
  where
    k : Named r
    k = each_first Named r rs h

    seam : (es ++ (entry_named r ∷ [])) ++ map entry_named rs ≡ es ++ map entry_named (r ∷ rs)
    seam = append_assoc es (entry_named r ∷ []) (map entry_named rs)

-- ---- a build

module _ (rs : List IdName) (h : Each Named rs) (fit : Fit (map entry_named rs)) (w : List ℕ) (room : length (words_of (map entry_named rs)) ≤ length w) where
  taken : taken_of (register_of rs) ≡ record { number = 0; line = 0; entries = map entry_named rs }
  unfolding taken_of
  taken = ap (take_lines []) (register_lines rs h) ∙ names_taken [] rs h fit

  entries : entries_of (register_of rs) ≡ map entry_named rs
  entries = ap (λ (t : Taken). t.entries) taken

  pub register_accepted : Accepted (register_of rs) w
  register_accepted =
      ap (λ (b : Built). b.number)
      (none_bad_fits (register_of rs) (length w) (ap (λ (t : Taken). t.number) taken)
      (subst (λ (l : List Entry). length (words_of l) ≤ length w) (sym entries) room))

  pub register_words : words_after (register_of rs) w ≡ pad_to (length w) (words_of (map entry_named rs))
  register_words = accepted_words (register_of rs) w register_accepted ∙ ap (λ (l : List Entry). pad_to (length w) (words_of l)) entries
