-- The words after an accepted add and after an accepted withdrawal: the index of names within the limits, and blanks behind it. Where the words of before
-- were written from names, they are those names with one more or less; else those that the words of before give back, with one more or less.
-- Assumes nothing.
use mathlib.Core.Path.{◌≡◌, sym, ap, ap₂, ◌∙◌}
use mathlib.Core.Bool.{true, false}
use mathlib.Core.List.{List}
use Prim.Native.Nat.{ℕ, ◌+◌, ◌-◌, ◌≤◌, ◌<◌}
use native.Mathlib.Omega.{arith}
use lib.ListN.{length, get_or, replicate, length-append, length-replicate, length-map, get_or-map}
use Rattle.laws.specs.Lists.{member}
use Rattle.laws.proofs.Lists.{length_tabulate, get_d_tabulate}
use Rattle.laws.proofs.Members.{member_head, member_place}
use Rattle.laws.proofs.Sort.{member_insert}
use Rattle.names.specs.Features.{characters, features_of}
use Rattle.words.specs.Words.{name_count, posting_count}
use Rattle.index.specs.Good.{most_names, largest_id, Good}
use Rattle.lists.specs.Lists.{features_in}
use Rattle.index_writer.specs.Built.{Entry, no_entry, all_triples, words_of, EntryFit, Fit}
use Rattle.index_writer.specs.Contents.{entry_in, entries_in, Narrow}
use Rattle.index_writer.specs.Written.{blank, pad_to}
use Rattle.index_writer.proofs.Built.{built_name_count, built_posting_count, built_narrow, built_good, name_fit}
use Rattle.index_writer.proofs.Unique.{good_fit}
use Rattle.changes.specs.Names.{ids_of, with_entry, without_id}
use Rattle.changes.proofs.Names.{ids_with, fit_added, fit_withdrawn, length_triples_with, length_triples_without, withdrawn_added}
use Rattle.changes.proofs.Again.{ids_again, index_with_again, index_without_again, good_postings, good_length, length_index_without}
use Rattle.upkeep.specs.Upkeep.{is_live, entry_for, index_with, added_of, words_added, index_without, withdrawn_of, words_withdrawn}
use Rattle.upkeep.proofs.Judging.{Adds, added_adds, added_words, withdrawn_live, withdraw_live, withdrawn_words}

-- ---- words that were written from names

-- the index of names within the limits fits so many words, and blanks stand behind it
pub record Written (n : ℕ) (w : List ℕ) (es : List Entry) : Type 0 where
  pub fit : Fit es
  pub fits : length (words_of es) ≤ n
  pub words : w ≡ pad_to n (words_of es)

module _ (n : ℕ) (w : List ℕ) (es : List Entry) (k : Written n w es) where
  abbrev behind : List ℕ
  behind = replicate (n - length (words_of es)) blank

  pub written_length : length w ≡ n
  written_length =
      let a = ap length k.words in
      let b = length-append (words_of es) behind in
      let c = length-replicate (n - length (words_of es)) blank in
      let d = k.fits in
      omega arith

  pub written_good : Good w
  written_good = rw k.words (built_good es k.fit behind)

  pub written_narrow : Narrow w
  written_narrow = rw k.words (built_narrow es behind)

  pub written_postings : posting_count w ≡ length (all_triples es)
  written_postings = ap posting_count k.words ∙ built_posting_count es behind

  pub written_live : (id : ℕ) → is_live w id ≡ member id (ids_of es)
  written_live id = ap (λ (v : List ℕ). is_live v id) k.words ∙ ap (member id) (ids_again es k.fit behind)

  -- one name less
  pub written_withdrawn : (id : ℕ) → withdrawn_of w id ≡ 0 → Written n (words_withdrawn w id) (without_id id es)
  written_withdrawn id z =
      record {
        fit = fit_withdrawn id es k.fit;
        fits = (let a = length_index_without id es k.fit in let b = k.fits in omega arith);
        words = withdrawn_words w id z
            ∙ ap₂ pad_to written_length (ap (λ (v : List ℕ). index_without v id) k.words ∙ index_without_again es k.fit behind id);
      }

  -- one name more
  module _ (id : ℕ) (name : List ℕ) (low : id ≤ largest_id) (bytes : (j : ℕ) → get_or name j 0 < characters) (z : added_of w id name ≡ 0) where
    pub written_added : Written n (words_added w id name) (with_entry (entry_for id name) es)
    written_added =
        record {
          fit = fit_added (entry_for id name) es k.fit one unused few;
          fits = (let a = ap length same in let b = d.fits in let c = written_length in omega arith);
          words = added_words w id name z ∙ ap₂ pad_to written_length same;
        }
      where
        d : Adds w id name
        d = added_adds w id name z

        one : EntryFit (entry_for id name)
        one = name_fit name id d.judged bytes low

        unused : member id (ids_of es) ≡ false
        unused = sym (written_live id) ∙ d.unused

        few : length es < most_names
        few =
            let a = ap name_count k.words ∙ built_name_count es behind in
            let b = d.few in
            omega arith

        same : index_with w id name ≡ words_of (with_entry (entry_for id name) es)
        same =
            ap (λ (v : List ℕ). index_with v id name) k.words
            ∙ index_with_again es k.fit behind (entry_for id name) one unused few

-- withdrawing what was added gives the very words of before
pub withdraw_add : (n : ℕ) (w : List ℕ) (es : List Entry) → Written n w es → (id : ℕ) (name : List ℕ) → id ≤ largest_id
    → ((j : ℕ) → get_or name j 0 < characters) → added_of w id name ≡ 0 → words_withdrawn (words_added w id name) id ≡ w
withdraw_add n w es k id name low bytes z =
    (written_withdrawn n (words_added w id name) es' a id (withdraw_live (words_added w id name) id (written_good n (words_added w id name) es' a) live)).words
    ∙ ap (λ (l : List Entry). pad_to n (words_of l)) (withdrawn_added (entry_for id name) es (sym (written_live n w es k id) ∙ (added_adds w id name z).unused))
    ∙ sym k.words
  where
    es' : List Entry
    es' = with_entry (entry_for id name) es

    a : Written n (words_added w id name) es'
    a = written_added n w es k id name low bytes z

    live : is_live (words_added w id name) id ≡ true
    live =
        written_live n (words_added w id name) es' a id
        ∙ ap (member id) (ids_with (entry_for id name) es)
        ∙ member_insert id id (ids_of es)
        ∙ member_head id (ids_of es)

-- ---- after a call on any words

pub length_entries : (w : List ℕ) → length (entries_in w) ≡ name_count w
unfolding entries_in
length_entries w = length_tabulate (entry_in w) (name_count w)

-- a live id is that of a name, which stands for the id's features
live_place : (w : List ℕ) (id : ℕ) → is_live w id ≡ true
    → (k : ℕ)
    × (k < length (entries_in w))
    × ((get_or (entries_in w) k no_entry).id ≡ id)
    × ((get_or (entries_in w) k no_entry).features ≡ features_in w id)
unfolding entries_in
live_place w id l =
    let p = member_place id (ids_of (entries_in w)) l in
    let n = length-map (entries_in w) (λ (e : Entry). e.id) in
    let m = length_entries w in
    let b = p.1 in
    let h : p.0 < length (entries_in w) = omega arith in
    let at = get_d_tabulate (entry_in w) (name_count w) p.0 no_entry (omega arith) in
    let i = sym (get_or-map (λ (e : Entry). e.id) (entries_in w) p.0 no_entry) ∙ p.2 in
    (p.0, h, i, ap (λ (e : Entry). e.features) at ∙ ap (features_in w) (sym (ap (λ (e : Entry). e.id) at) ∙ i))

module _ (w : List ℕ) (narrow : Narrow w) where
  -- one name more
  module _ (id : ℕ) (name : List ℕ) (low : id ≤ largest_id) (bytes : (j : ℕ) → get_or name j 0 < characters) (z : added_of w id name ≡ 0) where
    pub after_add : Written (length w) (words_added w id name) (with_entry (entry_for id name) (entries_in w))
    after_add =
        let d = added_adds w id name z in
        let n = length_entries w in
        let b = d.few in
        record {
          fit = fit_added (entry_for id name) (entries_in w) (good_fit w d.good narrow) (name_fit name id d.judged bytes low) d.unused (omega arith);
          fits = d.fits;
          words = added_words w id name z;
        }

    pub postings_add : posting_count (words_added w id name) ≡ length (features_of name) + posting_count w
    postings_add =
        written_postings (length w) (words_added w id name) (with_entry (entry_for id name) (entries_in w)) after_add
        ∙ length_triples_with (entry_for id name) (entries_in w)
        ∙ ap (λ (n : ℕ). length (features_of name) + n) (sym (good_postings w (added_adds w id name z).good narrow))

  -- one name less
  module _ (id : ℕ) (z : withdrawn_of w id ≡ 0) where
    good : Good w
    good = (withdrawn_live w id z).0

    pub after_withdraw : Written (length w) (words_withdrawn w id) (without_id id (entries_in w))
    after_withdraw =
        let a = length_index_without id (entries_in w) (good_fit w good narrow) in
        let b = good_length w good narrow in
        record {
          fit = fit_withdrawn id (entries_in w) (good_fit w good narrow);
          fits = omega arith;
          words = withdrawn_words w id z;
        }

    pub postings_withdraw : posting_count (words_withdrawn w id) + length (features_in w id) ≡ posting_count w
    postings_withdraw =
        let p = live_place w id (withdrawn_live w id z).1 in
        ap₂ (λ (v n : ℕ). v + n)
        (written_postings (length w) (words_withdrawn w id) (without_id id (entries_in w)) after_withdraw)
        (ap length (sym p.3))
        ∙ length_triples_without (entries_in w) (good_fit w good narrow).ids p.0 id p.1 p.2
        ∙ sym (good_postings w good narrow)
