-- Worked examples of an index, by computation: the index of LANE (10), LANES (11) and PLANE (12) is good, and a list of it.
-- Assumes nothing.
use mathlib.Core.Path.{◌≡◌, refl}
use mathlib.Core.Bool.{true}
use mathlib.Core.List.{List, [], ◌∷◌}
use Rattle.laws.specs.Cases.{first_case}
use Rattle.laws.specs.Lists.{member, count_of, tabulate}
use Rattle.laws.specs.Below.{all_below, any_below, sum_below}
use Rattle.laws.specs.First.{first_from}
use Rattle.laws.specs.Sort.{insert, sort_of}
use Rattle.names.specs.Names.{has_control, judge_of}
use Rattle.names.specs.Features.{padded, packed, gram_at, times_in, number_at, numbered, features_by, features_of}
use Rattle.words.specs.Words.{name_word, name_id, name_size, row_size, row_feature, row_place, row_length, posting, list_at}
use Rattle.index.specs.Good.{head_good, name_good, names_good, row_before, place_due, row_good, rows_good, is_name, list_good, lists_with, lists_good, good_of}
use Rattle.lists.specs.Lists.{row_is, row_for, list_in}
use Rattle.index_writer.specs.Built.{Entry, triples_of, all_triples, join_row, runs_of, lists_of, row_words, words_from, rows_of, words_of}

abbrev three : List Entry
three =
    record { id = 10; features = features_of (76 ∷ 65 ∷ 78 ∷ 69 ∷ []) }
    ∷ record { id = 11; features = features_of (76 ∷ 65 ∷ 78 ∷ 69 ∷ 83 ∷ []) }
    ∷ record { id = 12; features = features_of (80 ∷ 76 ∷ 65 ∷ 78 ∷ 69 ∷ []) }
    ∷ []

three_good : good_of (words_of three) ≡ true
unfolding good_of head_good name_good names_good row_before place_due row_good rows_good is_name list_good lists_with lists_good name_word name_id name_size row_size row_feature row_place row_length posting list_at triples_of all_triples join_row runs_of lists_of row_words words_from rows_of words_of insert sort_of member count_of tabulate all_below any_below sum_below first_case judge_of has_control padded packed gram_at times_in number_at numbered features_by features_of
three_good = refl

-- ANE stands in LANES and PLANE, both of size 7
ane_list : list_in (words_of three) 7 1095648513 ≡ 11 ∷ 12 ∷ []
unfolding first_from row_is row_for list_in name_word name_id name_size row_size row_feature row_place row_length posting list_at triples_of all_triples join_row runs_of lists_of row_words words_from rows_of words_of insert sort_of member count_of tabulate all_below any_below sum_below first_case judge_of has_control padded packed gram_at times_in number_at numbered features_by features_of
ane_list = refl
