-- The tables once all lines are read, and what a build answers by its tests.
-- Assumes nothing.
use mathlib.Core.Path.{◌≡◌, sym, ap, ap₂, subst, ◌∙◌}
use mathlib.Core.Bool.{true, false}
use mathlib.Core.List.{List, ◌++◌, map}
use Prim.Native.Nat.{ℕ, ◌≤◌}
use native.Mathlib.Nat.{min-le_right}
use native.Mathlib.Omega.{arith}
use borrow.Author.Tests.{eq-eqb, ne_eqb}
use lib.ListN.{length, take, drop, replicate, length-take}
use lib.Seq.{length-take-le, take_at}
use Rattle.index.specs.Good.{most_names, most_postings}
use Rattle.index_writer.specs.Built.{Entry, word_of, runs_of, words_from, rows_of, words_of, Fit}
use Rattle.index_writer.specs.Keys.{triples_at, all_keys, Keyed}
use Rattle.index_writer.specs.Written.{blank, written_in}
use Rattle.index_writer.proofs.Keys.{keys_triples}
use Rattle.index_writer.proofs.Built.{few_postings}
use Rattle.ordering.specs.Order.{sizes_of, ordered_of}
use Rattle.ordering.proofs.Ordered.{sizes_keys, ordered_triples, ordered_keyed}
use Rattle.register.specs.Steps.{Tables}
use Rattle.register.specs.Build.{taken_of, entries_of, room_for, built_of, words_after}

-- ---- the tables, all lines read

-- the tables hold the names, and the names and keys lie within them
pub record Held (es : List Entry) (names keys ordered : List ℕ) (n p : ℕ) : Type 0 where
  pub tables : Tables es names keys n p
  pub most : p ≤ most_postings
  pub names_within : n ≤ length names
  pub keys_within : p ≤ length keys
  pub ordered_within : p ≤ length ordered
  pub sizes : sizes_of (take n names) ≡ p

pub held : {es : List Entry} {names keys : List ℕ} {n p : ℕ} → Tables es names keys n p → (ordered : List ℕ)
    → length names ≡ most_names → length ordered ≡ length keys → Held es names keys ordered n p
held {es} {names} {keys} {n} {p} t ordered a d =
    let c = t.count in
    let s = t.sum in
    let f = t.fit.few in
    let k = keys_triples 0 es in
    let m = few_postings es t.fit in
    let l = sym (length-take p keys) ∙ ap length t.postings in
    let r = min-le_right p (length keys) in
    let within : p ≤ length keys = omega arith in
    record {
      tables = t;
      most = omega arith;
      names_within = omega arith;
      keys_within = within;
      ordered_within = omega arith;
      sizes = ap sizes_of t.words ∙ sizes_keys 0 es t.fit.each ∙ sym s;
    }

-- the keys once they are in order, where they were put
pub in_order : {es : List Entry} {names keys ordered : List ℕ} {n p : ℕ} → Held es names keys ordered n p → (out : List ℕ)
    → length out ≡ length (take p ordered) → out ≡ ordered_of (take n names) (take p keys)
    → take p (out ++ drop p ordered) ≡ ordered_of (take n names) (all_keys es)
in_order {es} {names} {keys} {ordered} {n} {p} h out l e =
    take_at out (drop p ordered) p (l ∙ length-take-le p ordered h.ordered_within)
    ∙ e
    ∙ ap (ordered_of (take n names)) h.tables.postings

-- ---- the answer

module _ (register words : List ℕ) where
  pub built_bad : ((taken_of register).number ≡ 0 → ⊥)
      → (record { number = (taken_of register).number; line = (taken_of register).line } ≡ built_of register (length words))
      × (replicate (length words) blank ≡ words_after register words)
  unfolding built_of words_after
  built_bad n = (rw (ne_eqb (taken_of register).number 0 n), rw (ne_eqb (taken_of register).number 0 n, ne_eqb (taken_of register).number 0 n))

  pub built_over : (taken_of register).number ≡ 0 → room_for (entries_of register) (length words) ≡ false
      → (record { number = 8; line = 0 } ≡ built_of register (length words)) × (written_in (length words) (words_of (entries_of register)) ≡ words_after register words)
  unfolding built_of words_after written_in
  built_over z f = (rw (eq-eqb (taken_of register).number 0 z, f), rw (eq-eqb (taken_of register).number 0 z, f))

  pub built_in : (taken_of register).number ≡ 0 → room_for (entries_of register) (length words) ≡ true
      → (record { number = 0; line = 0 } ≡ built_of register (length words)) × (written_in (length words) (words_of (entries_of register)) ≡ words_after register words)
  unfolding built_of words_after written_in
  built_in z f = (rw (eq-eqb (taken_of register).number 0 z, f), rw (eq-eqb (taken_of register).number 0 z, f))

-- the index of names from their words and their keys in order
module _ (es : List Entry) (fit : Fit es) (names ks : List ℕ) (e : names ≡ map word_of es) (f : ks ≡ ordered_of names (all_keys es)) where
  ordered : ks ≡ ordered_of (map word_of es) (all_keys es)
  ordered = f ∙ ap (λ (w : List ℕ). ordered_of w (all_keys es)) e

  pub words_of_lem : words_from names (runs_of (triples_at names ks)) ≡ words_of es
  unfolding words_of rows_of
  words_of_lem = ap₂ (λ (w k : List ℕ). words_from w (runs_of (triples_at w k))) e ordered ∙ ap (λ (k : List ℕ). words_from (map word_of es) (runs_of k)) (ordered_triples es fit)

  pub keyed_of : Keyed names ks
  keyed_of = subst (λ (w : List ℕ). Keyed w ks) (sym e) (subst (Keyed (map word_of es)) (sym ordered) (ordered_keyed es fit))
