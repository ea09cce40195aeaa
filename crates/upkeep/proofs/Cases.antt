-- Worked examples of adds and withdrawals, by computation: those of docs/RULE.md, and each refusal.
-- Assumes nothing.
use mathlib.Core.Path.{◌≡◌, refl}
use mathlib.Core.List.{List, [], ◌∷◌, ◌++◌, map}
use Prim.Native.Nat.{ℕ}
use lib.ListN.{replicate}
use Rattle.laws.specs.Cases.{first_case}
use Rattle.laws.specs.Lists.{member, tabulate}
use Rattle.laws.specs.Below.{all_below, any_below, sum_below, passing_below}
use Rattle.laws.specs.Filter.{filter_of}
use Rattle.laws.specs.Sort.{insert, sort_of}
use Rattle.names.specs.Names.{has_control, judge_of}
use Rattle.names.specs.Features.{padded, packed, gram_at, times_in, number_at, numbered, features_by, features_of}
use Rattle.words.specs.Words.{name_word, name_id, name_size, row_size, row_feature, row_place, row_length, posting, list_at}
use Rattle.index.specs.Good.{head_good, name_good, names_good, row_before, place_due, row_good, rows_good, is_name, list_good, lists_with, lists_good, good_of}
use Rattle.lists.specs.Lists.{features_in}
use Rattle.index_writer.specs.Built.{triples_of, all_triples, join_row, runs_of, lists_of, row_words, words_from, rows_of, words_of}
use Rattle.index_writer.specs.Contents.{entries_in}
use Rattle.index_writer.specs.Written.{blank}
use Rattle.changes.specs.Names.{with_entry}
use Rattle.upkeep.specs.Upkeep.{added_of, words_added, withdrawn_of, words_withdrawn}

-- what a call answers and leaves, its number first, and what it should
record Example : Type 0 where
  is : List ℕ
  should : List ℕ

abbrev adds : List ℕ → ℕ → List ℕ → ℕ → List ℕ → Example
adds w id name number after = record { is = added_of w id name ∷ words_added w id name; should = number ∷ after }

abbrev withdraws : List ℕ → ℕ → ℕ → List ℕ → Example
withdraws w id number after = record { is = withdrawn_of w id ∷ words_withdrawn w id; should = number ∷ after }

-- the name A
abbrev a : List ℕ
a = 65 ∷ []

-- the index of A under 5 and under 9, under 9 alone, and of no name
abbrev both : List ℕ
both = 2 ∷ 3 ∷ 6 ∷ 1283 ∷ 2307 ∷ 3 ∷ 16641 ∷ 0 ∷ 2 ∷ 3 ∷ 4259841 ∷ 2 ∷ 2 ∷ 3 ∷ 1090519041 ∷ 4 ∷ 2 ∷ 5 ∷ 9 ∷ 5 ∷ 9 ∷ 5 ∷ 9 ∷ []

abbrev nine : List ℕ
nine = 1 ∷ 3 ∷ 3 ∷ 2307 ∷ 3 ∷ 16641 ∷ 0 ∷ 1 ∷ 3 ∷ 4259841 ∷ 1 ∷ 1 ∷ 3 ∷ 1090519041 ∷ 2 ∷ 1 ∷ 9 ∷ 9 ∷ 9 ∷ []

abbrev none : List ℕ
none = 0 ∷ 0 ∷ 0 ∷ []

examples : List Example
examples =
    -- what stood beyond is blank afterwards
    withdraws (both ++ (7 ∷ 7 ∷ [])) 5 0 (nine ++ replicate 6 blank)
    -- and the words of before come back
    ∷ adds (nine ++ replicate 6 7) 5 a 0 (both ++ replicate 2 blank)
    -- the last name
    ∷ withdraws (nine ++ replicate 6 blank) 9 0 (none ++ replicate 22 blank)
    -- room for just the index, and one word less
    ∷ adds (none ++ replicate 16 7) 9 a 0 nine
    ∷ adds (none ++ replicate 15 7) 9 a 8 (none ++ replicate 15 7)
    -- a live id; a bad name comes before it, and a bad index before that
    ∷ adds both 9 a 9 both
    ∷ adds both 9 [] 1 both
    ∷ adds (0 ∷ 0 ∷ []) 9 [] 6 (0 ∷ 0 ∷ [])
    -- an id that is not live, and a bad index
    ∷ withdraws both 6 13 both
    ∷ withdraws (0 ∷ 0 ∷ []) 6 6 (0 ∷ 0 ∷ [])
    ∷ []

-- every example is what it should be
examples_right : map (λ (e : Example). e.is) examples ≡ map (λ (e : Example). e.should) examples
unfolding examples added_of words_added withdrawn_of words_withdrawn with_entry entries_in features_in filter_of good_of head_good name_good names_good row_before place_due row_good rows_good is_name list_good lists_with lists_good name_word name_id name_size row_size row_feature row_place row_length posting list_at triples_of all_triples join_row runs_of lists_of row_words words_from rows_of words_of insert sort_of member tabulate all_below any_below sum_below first_case judge_of has_control padded packed gram_at times_in number_at numbered features_by features_of passing_below
examples_right = refl
