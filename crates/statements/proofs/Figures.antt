-- The worked figures hold, all of them, by computation from the definitions.
-- Assumes nothing.
use mathlib.Core.Path.{refl}
use Rattle.laws.specs.Cases.{first_case}
use Rattle.laws.specs.Lists.{member, count_of, tabulate, sum_of}
use Rattle.laws.specs.Below.{all_below, any_below, sum_below, passing_below}
use Rattle.laws.specs.First.{first_from}
use Rattle.laws.specs.Sort.{insert, sort_of}
use Rattle.names.specs.Names.{has_control, judge_of}
use Rattle.names.specs.Features.{padded, packed, gram_at, times_in, number_at, numbered, features_by, features_of}
use Rattle.names.specs.Shared.{shared_of}
use Rattle.likeness.specs.Measures.{measure_of, good_measure, good_threshold, reaches, is_similar}
use Rattle.likeness.specs.Sizes.{beside, may_reach, is_searched}
use Rattle.likeness.specs.Least.{least_count}
use Rattle.likeness.specs.Terms.{divisor_f, divisor_of, lowest_terms}
use Rattle.words.specs.Words.{name_word, name_id, name_size, row_size, row_feature, row_place, row_length, posting, list_at}
use Rattle.index.specs.Good.{head_good, name_good, names_good, row_before, place_due, row_good, rows_good, is_name, list_good, lists_with, lists_good, good_of}
use Rattle.lists.specs.Lists.{row_is, row_for, list_in}
use Rattle.index_writer.specs.Built.{triples_of, all_triples, join_row, runs_of, lists_of, row_words, words_from, rows_of, words_of}
use Rattle.candidates.specs.Method.{held_by, signature_postings, remains}
use Rattle.sizes.specs.Method.{ordered_for, lists_for, remaining, touches_at, shared_with, touches_of_size, touches_of, listed, answers_of}
use Rattle.search.specs.Answers.{question_of, refusal_of, search_good_of, search_of}
use Rattle.statements.specs.Figures.{all_right, FiguresRight}

pub figures_right : FiguresRight
unfolding all_right good_of head_good name_good names_good row_before place_due row_good rows_good is_name list_good lists_with lists_good name_word name_id name_size row_size row_feature row_place row_length posting list_at triples_of all_triples join_row runs_of lists_of row_words words_from rows_of words_of insert sort_of member count_of tabulate all_below any_below sum_below first_case judge_of has_control padded packed gram_at times_in number_at numbered features_by features_of shared_of sum_of first_from measure_of good_measure good_threshold reaches is_similar beside may_reach is_searched least_count row_is row_for list_in ordered_for lists_for held_by signature_postings remains remaining touches_at shared_with touches_of_size touches_of listed passing_below answers_of divisor_f divisor_of lowest_terms question_of refusal_of search_good_of search_of
figures_right = refl
