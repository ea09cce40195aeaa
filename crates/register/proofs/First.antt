-- The first bad line, by its place: a build gives its number and its place, and all lines are good exactly if each is, judged after those before it.
-- Assumes nothing.
use mathlib.Core.Path.{◌≡◌, sym, ap, ap₂, ◌∙◌}
use mathlib.Core.Logic.{⊎_elim}
use mathlib.Core.List.{List, [], ◌∷◌, ◌++◌, map, append-nil, append_assoc}
use Prim.Native.Nat.{ℕ, zero, suc, ◌+◌, ◌≤◌, ◌<◌}
use native.Mathlib.Omega.{arith}
use borrow.Author.Tests.{eq-eqb, ne_eqb, le-leb, lt-leb}
use lib.ListN.{length, get_or, take, length-append}
use Rattle.laws.proofs.Order.{eq_or_ne}
use Rattle.index_writer.specs.Built.{Entry, words_of}
use Rattle.lines.specs.Lines.{lines_of}
use Rattle.register.specs.Build.{next_id, judge_line, judge_nth, entry_of, Taken, take_lines, taken_of, entries_of, built_of}
use Rattle.register.proofs.Taking.{take_none, take_bad, take_good}

-- ---- the lines after given names

-- the number of line k of these, judged after the names es and those of the lines before it
judge_from : List Entry → List (List ℕ) → ℕ → ℕ
judge_from es ls k = judge_line (length es + k) (next_id (es ++ map entry_of (take k ls))) (get_or ls k [])

from_zero : (es : List Entry) (l : List ℕ) (ls : List (List ℕ)) → judge_from es (l ∷ ls) 0 ≡ judge_line (length es) (next_id es) l
unfolding judge_from
from_zero es l ls = ap₂ (λ (n : ℕ) (e : List Entry). judge_line n (next_id e) l) (omega arith) (append-nil es)

from_suc : (es : List Entry) (l : List ℕ) (ls : List (List ℕ)) (k : ℕ) → judge_from es (l ∷ ls) (suc k) ≡ judge_from (es ++ (entry_of l ∷ [])) ls k
unfolding judge_from
from_suc es l ls k =
    let n = length-append es (entry_of l ∷ []) in
    ap₂ (λ (x : ℕ) (e : List Entry). judge_line x (next_id e) (get_or ls k [])) (omega arith) (sym (append_assoc es (entry_of l ∷ []) (map entry_of (take k ls))))

first : (es : List Entry) (ls : List (List ℕ)) (k : ℕ) → k < length ls → ((j : ℕ) → j < k → judge_from es ls j ≡ 0) → (judge_from es ls k ≡ 0 → ⊥)
    → take_lines es ls ≡ record { number = judge_from es ls k; line = length es + k + 1; entries = [] }
first es [] k h g b = absurd (omega arith)
first es (l ∷ ls) zero h g b =
    take_bad es l ls (λ q. b (from_zero es l ls ∙ q))
    ∙ ap₂ (λ (x y : ℕ). record { number = x; line = y; entries = [] }) (sym (from_zero es l ls)) (omega arith)
first es (l ∷ ls) (suc k) h g b =
    let n = length-append es (entry_of l ∷ []) in
    take_good es l ls (sym (from_zero es l ls) ∙ g 0 (omega arith))
    ∙ first (es ++ (entry_of l ∷ [])) ls k (omega arith) (λ j q. sym (from_suc es l ls j) ∙ g (suc j) (omega arith)) (λ q. b (from_suc es l ls k ∙ q))
    ∙ ap₂ (λ (x y : ℕ). record { number = x; line = y; entries = [] }) (sym (from_suc es l ls k)) (omega arith)

all : (es : List Entry) (ls : List (List ℕ)) → ((j : ℕ) → j < length ls → judge_from es ls j ≡ 0)
    → take_lines es ls ≡ record { number = 0; line = 0; entries = es ++ map entry_of ls }
all es [] g = take_none es ∙ ap (λ (e : List Entry). record { number = 0; line = 0; entries = e }) (sym (append-nil es))
all es (l ∷ ls) g =
    take_good es l ls (sym (from_zero es l ls) ∙ g 0 (omega arith))
    ∙ all (es ++ (entry_of l ∷ [])) ls (λ j q. sym (from_suc es l ls j) ∙ g (suc j) (omega arith))
    ∙ ap (λ (e : List Entry). record { number = 0; line = 0; entries = e }) (append_assoc es (entry_of l ∷ []) (map entry_of ls))

none : (es : List Entry) (ls : List (List ℕ)) → (take_lines es ls).number ≡ 0 → (j : ℕ) → j < length ls → judge_from es ls j ≡ 0
none es [] z j h = absurd (omega arith)
none es (l ∷ ls) z zero h =
    ⊎_elim
    (λ (g : judge_line (length es) (next_id es) l ≡ 0). from_zero es l ls ∙ g)
    (λ (n : judge_line (length es) (next_id es) l ≡ 0 → ⊥). absurd (n (sym (ap (λ (t : Taken). t.number) (take_bad es l ls n)) ∙ z)))
    (eq_or_ne (judge_line (length es) (next_id es) l) 0)
none es (l ∷ ls) z (suc j) h =
    ⊎_elim
    (λ (g : judge_line (length es) (next_id es) l ≡ 0).
    from_suc es l ls j ∙ none (es ++ (entry_of l ∷ [])) ls (sym (ap (λ (t : Taken). t.number) (take_good es l ls g)) ∙ z) j (omega arith))
    (λ (n : judge_line (length es) (next_id es) l ≡ 0 → ⊥). absurd (n (sym (ap (λ (t : Taken). t.number) (take_bad es l ls n)) ∙ z)))
    (eq_or_ne (judge_line (length es) (next_id es) l) 0)

-- ---- the lines of a register

module _ (register : List ℕ) where
  from_nth : (i : ℕ) → judge_from [] (lines_of register) i ≡ judge_nth register i
  unfolding judge_from
  from_nth i = ap (λ (n : ℕ). judge_line n (next_id (map entry_of (take i (lines_of register)))) (get_or (lines_of register) i [])) (omega arith)

  -- the first bad line decides: its number, and its place from 1
  pub first_bad : (i : ℕ) → i < length (lines_of register) → ((j : ℕ) → j < i → judge_nth register j ≡ 0) → (judge_nth register i ≡ 0 → ⊥)
      → ((taken_of register).number ≡ judge_nth register i) × ((taken_of register).line ≡ i + 1)
  unfolding taken_of
  first_bad i h g b =
      let e = first [] (lines_of register) i h (λ j q. from_nth j ∙ g j q) (λ q. b (sym (from_nth i) ∙ q)) in
      (ap (λ (t : Taken). t.number) e ∙ from_nth i, ap (λ (t : Taken). t.line) e ∙ omega arith)

  -- no bad line: the names are those of all lines, in order
  pub none_bad : ((j : ℕ) → j < length (lines_of register) → judge_nth register j ≡ 0)
      → ((taken_of register).number ≡ 0) × (entries_of register ≡ map entry_of (lines_of register))
  unfolding taken_of
  none_bad g =
      let e = all [] (lines_of register) (λ j q. from_nth j ∙ g j q) in
      (ap (λ (t : Taken). t.number) e, ap (λ (t : Taken). t.entries) e)

  -- and the other way: a register without a bad line has good lines alone
  pub each_good : (taken_of register).number ≡ 0 → (j : ℕ) → j < length (lines_of register) → judge_nth register j ≡ 0
  unfolding taken_of
  each_good z j h = sym (from_nth j) ∙ none [] (lines_of register) z j h

  -- a build's answer where line i is the first bad one, whatever the room
  pub first_bad_built : (i room : ℕ) → i < length (lines_of register) → ((j : ℕ) → j < i → judge_nth register j ≡ 0) → (judge_nth register i ≡ 0 → ⊥)
      → built_of register room ≡ record { number = judge_nth register i; line = i + 1 }
  unfolding built_of
  first_bad_built i room h g b =
      let e = first_bad i h g b in
      rw (ne_eqb (taken_of register).number 0 (λ q. b (sym e.0 ∙ q))) (ap₂ (λ (x y : ℕ). record { number = x; line = y }) e.0 e.1)

  -- and where no line is bad: 8 and line 0 exactly if the index is longer than the room, otherwise 0 and 0
  module _ (room : ℕ) (z : (taken_of register).number ≡ 0) where
    pub none_bad_over : room < length (words_of (entries_of register)) → built_of register room ≡ record { number = 8; line = 0 }
    unfolding built_of
    none_bad_over h = rw (eq-eqb (taken_of register).number 0 z, lt-leb (length (words_of (entries_of register))) room h)

    pub none_bad_fits : length (words_of (entries_of register)) ≤ room → built_of register room ≡ record { number = 0; line = 0 }
    unfolding built_of
    none_bad_fits h = rw (eq-eqb (taken_of register).number 0 z, le-leb (length (words_of (entries_of register))) room h)
