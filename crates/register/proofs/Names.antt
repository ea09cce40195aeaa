-- What the words of an accepted build hold, in the register's own terms: the ids and the sizes of its lines in order, and for each name its own features.
-- Line i is counted from 0. For who searches what was built.
-- Assumes nothing.
use mathlib.Core.Path.{◌≡◌, sym, ap, ap₂, subst, ◌∙◌}
use mathlib.Core.Bool.{true}
use mathlib.Core.List.{List, [], ◌++◌, map}
use Prim.Native.Nat.{ℕ, ◌+◌, ◌-◌, ◌<◌}
use native.Mathlib.Omega.{arith}
use lib.ListN.{length, get_or, take, replicate, length-map}
use Rattle.laws.specs.Lists.{member}
use Rattle.laws.proofs.Images.{get_d_map_lt}
use Rattle.names.specs.Names.{judge_of}
use Rattle.names.specs.Features.{features_of}
use Rattle.names.proofs.Laws.{length_features}
use Rattle.words.specs.Words.{name_count, name_id, name_size}
use Rattle.lists.specs.Lists.{list_in, features_in}
use Rattle.index_writer.specs.Built.{Entry, no_entry, Fit, words_of}
use Rattle.index_writer.proofs.Built.{built_name_count, built_id, built_size, built_list, built_listed, built_features}
use Rattle.lines.specs.Lines.{lines_of, nth_line}
use Rattle.index_writer.specs.Written.{blank, pad_to}
use Rattle.register.specs.Build.{id_in, name_of, entry_of, next_id, entries_of, built_of, words_after}
use Rattle.register.proofs.Judging.{good_line}
use Rattle.register.proofs.First.{none_bad, each_good}
use Rattle.register.proofs.Laws.{fit_register, accepted_lines, accepted_words}

module _ (register words : List ℕ) (accepted : (built_of register (length words)).number ≡ 0) where
  -- the names are those of the lines, one for each, in order
  pub accepted_entries : entries_of register ≡ map entry_of (lines_of register)
  accepted_entries = (none_bad register (each_good register (accepted_lines register words accepted))).1

  -- each line says a good name
  pub accepted_name : (i : ℕ) → i < length (lines_of register) → judge_of (name_of (nth_line register i)) ≡ 0
  accepted_name i h =
      (good_line i (next_id (map entry_of (take i (lines_of register)))) (nth_line register i) (each_good register (accepted_lines register words accepted) i h)).1

  size_of : (i : ℕ) → i < length (lines_of register) → length (features_of (name_of (nth_line register i))) ≡ length (name_of (nth_line register i)) + 2
  size_of i h = length_features (name_of (nth_line register i)) (accepted_name i h)

  fit : Fit (map entry_of (lines_of register))
  fit = subst (λ (l : List Entry). Fit l) accepted_entries (fit_register register (accepted_lines register words accepted))

  rest : List ℕ
  rest = replicate (length words - length (words_of (map entry_of (lines_of register)))) blank

  -- the words are the index of the lines' names, and blanks after it
  pub accepted_index : words_after register words ≡ words_of (map entry_of (lines_of register)) ++ replicate (length words - length (words_of (map entry_of (lines_of register)))) blank
  accepted_index = accepted_words register words accepted ∙ ap (λ (l : List Entry). pad_to (length words) (words_of l)) accepted_entries

  within : (i : ℕ) → i < length (lines_of register) → i < length (map entry_of (lines_of register))
  within i h = let n = length-map (lines_of register) entry_of in omega arith

  entry : (i : ℕ) → i < length (lines_of register) → get_or (map entry_of (lines_of register)) i no_entry ≡ entry_of (nth_line register i)
  entry i h = get_d_map_lt entry_of (lines_of register) i [] no_entry h

  -- as many names as lines
  pub accepted_count : name_count (words_after register words) ≡ length (lines_of register)
  unfolding rest
  accepted_count = ap name_count accepted_index ∙ built_name_count (map entry_of (lines_of register)) rest ∙ length-map (lines_of register) entry_of

  -- name i has the id that line i says
  pub accepted_id : (i : ℕ) → i < length (lines_of register) → name_id (words_after register words) i ≡ id_in (nth_line register i)
  unfolding rest
  accepted_id i h =
      ap (λ (w : List ℕ). name_id w i) accepted_index
      ∙ built_id (map entry_of (lines_of register)) fit rest i (within i h)
      ∙ ap (λ (e : Entry). e.id) (entry i h)

  -- and its size: two more than the bytes of the line's name
  pub accepted_size : (i : ℕ) → i < length (lines_of register) → name_size (words_after register words) i ≡ length (name_of (nth_line register i)) + 2
  unfolding rest
  accepted_size i h =
      ap (λ (w : List ℕ). name_size w i) accepted_index
      ∙ built_size (map entry_of (lines_of register)) fit rest i (within i h)
      ∙ ap (λ (e : Entry). length e.features) (entry i h)
      ∙ size_of i h

  -- the list of its size and a feature holds it exactly if the feature is its name's own
  pub accepted_list : (i f : ℕ) → i < length (lines_of register)
      → member (id_in (nth_line register i)) (list_in (words_after register words) (length (name_of (nth_line register i)) + 2) f)
      ≡ member f (features_of (name_of (nth_line register i)))
  unfolding rest
  accepted_list i f h =
      ap₂ (λ (w : List ℕ) (n : ℕ). member (id_in (nth_line register i)) (list_in w n f)) accepted_index (sym (size_of i h))
      ∙ ap (λ (e : Entry). member e.id (list_in (words_of (map entry_of (lines_of register)) ++ rest) (length e.features) f)) (sym (entry i h))
      ∙ built_list (map entry_of (lines_of register)) fit rest i f (within i h)
      ∙ ap (λ (e : Entry). member f e.features) (entry i h)

  -- and whatever a list of any size and feature holds is the id of a line whose name has that size and that feature
  pub accepted_listed : (size f id : ℕ) → member id (list_in (words_after register words) size f) ≡ true
      → (i : ℕ)
      × (i < length (lines_of register))
      × (id_in (nth_line register i) ≡ id)
      × (length (name_of (nth_line register i)) + 2 ≡ size)
      × (member f (features_of (name_of (nth_line register i))) ≡ true)
  unfolding rest
  accepted_listed size f id m =
      let p = built_listed (map entry_of (lines_of register)) fit rest size f id (ap (λ (w : List ℕ). member id (list_in w size f)) (sym accepted_index) ∙ m) in
      let n = length-map (lines_of register) entry_of in
      let q = p.1 in
      let h : p.0 < length (lines_of register) = omega arith in
      let e = entry p.0 h in
      (p.0, h, sym (ap (λ (x : Entry). x.id) e) ∙ p.2, sym (size_of p.0 h) ∙ sym (ap (λ (x : Entry). length x.features) e) ∙ p.3, sym (ap (λ (x : Entry). member f x.features) e) ∙ p.4)

  -- so that each name stands for its own features
  pub accepted_features : (i f : ℕ) → i < length (lines_of register)
      → member f (features_in (words_after register words) (id_in (nth_line register i))) ≡ member f (features_of (name_of (nth_line register i)))
  unfolding rest
  accepted_features i f h =
      ap (λ (w : List ℕ). member f (features_in w (id_in (nth_line register i)))) accepted_index
      ∙ ap (λ (e : Entry). member f (features_in (words_of (map entry_of (lines_of register)) ++ rest) e.id)) (sym (entry i h))
      ∙ built_features (map entry_of (lines_of register)) fit rest i f (within i h)
      ∙ ap (λ (e : Entry). member f e.features) (entry i h)

-- equal registers give equal answers and equal words, whatever the slices of one length held before
pub same_build : (register before₁ before₂ : List ℕ) → length before₁ ≡ length before₂
    → (built_of register (length before₁) ≡ built_of register (length before₂)) × (words_after register before₁ ≡ words_after register before₂)
unfolding words_after
same_build register before₁ before₂ e = (ap (built_of register) e, rw e)
