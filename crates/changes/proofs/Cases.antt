-- Worked figures, by computation: two names of small features, one added between them, and withdrawn again.
-- Assumes nothing.
use mathlib.Core.Path.{◌≡◌, refl}
use mathlib.Core.List.{List, [], ◌∷◌, map}
use Rattle.laws.specs.Lists.{member, count_of}
use Rattle.laws.specs.Filter.{filter_of}
use Rattle.laws.specs.Sort.{insert, sort_of}
use Rattle.words.specs.Words.{key_of}
use Rattle.index_writer.specs.Built.{Entry, word_of, Row, triples_of, all_triples, join_row, runs_of, lists_of, row_words, words_from, rows_of, words_of}
use Rattle.splicing.specs.Splice.{put_in}
use Rattle.changes.specs.Names.{with_entry, without_id}
use Rattle.changes.specs.Rows.{put_posting, with_postings, kept_row, without_postings}
use Rattle.changes.specs.Cuts.{placed_from, row_cuts, new_rows, posting_cuts, thin_row, cuts_of, empty_cuts, id_cuts, add_cuts, add_words, withdraw_cuts, settled}

abbrev two : List Entry
two = record { id = 10; features = 5 ∷ 3 ∷ [] } ∷ record { id = 30; features = 9 ∷ 5 ∷ [] } ∷ []

abbrev between : Entry
between = record { id = 20; features = 7 ∷ 5 ∷ [] }

-- feature 5 lists the new id between the two, and feature 7 has a row of its own
abbrev three : List Row
three =
    record { key = key_of 2 3; list = 10 ∷ [] }
    ∷ record { key = key_of 2 5; list = 10 ∷ 20 ∷ 30 ∷ [] }
    ∷ record { key = key_of 2 7; list = 20 ∷ [] }
    ∷ record { key = key_of 2 9; list = 30 ∷ [] }
    ∷ []

added : rows_of (with_entry between two) ≡ three
unfolding with_entry rows_of all_triples triples_of insert sort_of join_row runs_of
added = refl

put : with_postings 2 (5 ∷ 7 ∷ []) 20 (rows_of two) ≡ three
unfolding with_postings put_posting rows_of all_triples triples_of insert sort_of join_row runs_of
put = refl

-- withdrawn again, the row of feature 7 goes
withdrawn : without_postings 20 three ≡ rows_of two
unfolding without_postings kept_row filter_of rows_of all_triples triples_of insert sort_of join_row runs_of
withdrawn = refl

names : without_id 20 (with_entry between two) ≡ two
unfolding with_entry filter_of
names = refl

-- the words of the index: put in, and the rest worked out anew
words : settled 3 4 6 2 (5 ∷ 7 ∷ []) (put_in (add_cuts 2 1 2 20 (rows_of two) (5 ∷ 7 ∷ [])) (add_words (word_of between) 2 20 (rows_of two) (5 ∷ 7 ∷ [])) (words_of two))
    ≡ words_of (with_entry between two)
unfolding placed_from row_cuts new_rows posting_cuts put_in with_entry words_of words_from row_words lists_of rows_of all_triples triples_of insert sort_of join_row runs_of member count_of
words = refl

-- the id stands third and fifth among the postings, and the row of feature 7, which is row 2, is then empty
places : id_cuts 20 three ≡ 2 ∷ 4 ∷ []
unfolding cuts_of member count_of
places = refl

empty : empty_cuts (map (thin_row 20) three) ≡ 8 ∷ 9 ∷ 10 ∷ 11 ∷ []
unfolding cuts_of filter_of
empty = refl

-- the name is the second of three, so rows start at word 6 and postings at word 22
all : withdraw_cuts 3 1 20 three ≡ 4 ∷ 14 ∷ 15 ∷ 16 ∷ 17 ∷ 24 ∷ 26 ∷ []
unfolding cuts_of filter_of member count_of
all = refl
