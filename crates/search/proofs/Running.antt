-- What all sizes came to, as an answer and its columns: 7, 8 or the rows. Cited by the proof of `run`.
-- Assumes nothing.
use mathlib.Core.Path.{◌≡◌, sym, ap, ap₂, subst, fun_ext, ◌∙◌}
use mathlib.Core.Bool.{Bool, true, false}
use mathlib.Core.List.{List, map}
use Prim.Native.Nat.{ℕ, ◌≤◌, ◌<◌}
use native.Mathlib.Omega.{arith}
use borrow.Author.Tests.{lt-ltb, le-ltb}
use lib.ListN.{length, get_or}
use lib.Dec.{ltb}
use Rattle.laws.specs.Below.{sum_below}
use Rattle.laws.specs.Sort.{sort_of}
use Rattle.laws.proofs.Sort.{length_sort}
use Rattle.names.specs.Names.{judge_of}
use Rattle.names.specs.Features.{characters, features_of}
use Rattle.likeness.specs.Measures.{good_measure, good_threshold}
use Rattle.likeness.specs.Least.{least_count}
use Rattle.likeness.specs.Terms.{lowest_terms}
use Rattle.words.specs.Words.{name_count, name_id, name_size}
use Rattle.index.specs.Good.{Good, most_names}
use Rattle.candidates.proofs.Spending.{spent_most}
use Rattle.sizes.specs.Method.{sizes_end, shared_with, touches_of, answers_of}
use Rattle.sizes.specs.Tables.{Asked, leasts_of, Reachable, touches_by, answers_table, Covered}
use Rattle.search.specs.Places.{places_in}
use Rattle.search.specs.Answers.{search_good_of, search_of, given_by, Columns, room_of, least_for, columns_of, columns_over, Searched, Answer, Found, Refused}
use Rattle.search.proofs.Answered.{good_past, good_full, good_found, question_none, refusal_none, search_runs, searched_refused}
use Rattle.sizes.proofs.Answering.{length_answers}
use Rattle.sizes.proofs.Leasts.{leasts_reachable, touches_leasts, least_listed}
use Rattle.search.proofs.AgainstMethod.{touches_sorted, answers_sorted, shared_sorted, features_asked, places_answers, column_answers, shared_column}

-- the places of the answers, as the table holds them, and their rows
abbrev pub places_of : List ℕ → List ℕ → List ℕ
places_of w answers = places_in answers (name_count w)

abbrev pub table_columns : List ℕ → List ℕ → List ℕ → List ℕ → Columns
table_columns w leasts answers places =
    record {
      ids = map (name_id w) places;
      shared = map (λ (i : ℕ). get_or answers i 0) places;
      sizes = map (name_size w) places;
      least = map (λ (i : ℕ). get_or leasts (name_size w i) 0) places;
    }

-- what all sizes are handed: of a good index, a good query, measure and threshold the sorted features and the least counts
pub record Prepared (s : List ℕ) (m p q : ℕ) (w f leasts : List ℕ) : Type 0 where
  pub good : Good w
  pub judged : judge_of s ≡ 0
  pub known : good_measure m ≡ true
  pub exact : good_threshold p q ≡ true
  pub bytes : (j : ℕ) → get_or s j 0 < characters
  pub sorted : f ≡ sort_of (features_of s)
  pub least : leasts ≡ leasts_of w m p q (length f)

pub ran_asked : {s : List ℕ} {m p q : ℕ} {w f leasts : List ℕ} → Prepared s m p q w f leasts → Asked f
ran_asked {s = s} r = subst Asked (sym r.sorted) (features_asked s r.judged r.bytes)

pub ran_reachable : {s : List ℕ} {m p q : ℕ} {w f leasts : List ℕ} → Prepared s m p q w f leasts → Reachable f leasts
ran_reachable {m = m} {p} {q} {w} {f} r = subst (Reachable f) (sym r.least) (leasts_reachable w r.good m p q f (ran_asked r).some)

module _ {s : List ℕ} {m p q allowance : ℕ} {w f leasts answers : List ℕ} {past : Bool} {touches : ℕ} (r : Prepared s m p q w f leasts)
    (v : Covered w leasts f allowance answers past touches) where
  good_runs : (room : ℕ) → search_of s m p q allowance w room ≡ search_good_of s m p q allowance w room
  good_runs room = search_runs s m p q allowance w room (refusal_none s m p q w (question_none s m p q r.judged r.known r.exact) r.good)

  -- the touches of all sizes are the method's
  steps : sum_below sizes_end (touches_by w leasts f) ≡ touches_of w m p q (features_of s)
  steps =
      ap (λ (l : List ℕ). sum_below sizes_end (touches_by w l f)) r.least
      ∙ touches_leasts w r.good m p q f
      ∙ ap (touches_of w m p q) r.sorted
      ∙ touches_sorted w m p q (features_of s)

  over : ltb allowance (touches_of w m p q (features_of s)) ≡ past
  over = ap (ltb allowance) (sym steps) ∙ sym v.spent.over

  pub ran_past : past ≡ true → (c : Columns) → Searched s m p q allowance w c c (Refused 7 allowance)
  ran_past e c =
      searched_refused s m p q allowance w c 7 allowance (good_runs (room_of c) ∙ good_past s m p q allowance w (room_of c) (over ∙ e))

  module _ (e : past ≡ false) where
    cost : touches ≡ touches_of w m p q (features_of s)
    cost = v.spent.cost e ∙ steps

    table : answers ≡ answers_table w (leasts_of w m p q (length f)) f sizes_end
    table = v.answers e ∙ ap (λ (l : List ℕ). answers_table w l f sizes_end) r.least

    listed : places_of w answers ≡ answers_of w m p q f
    listed = ap (places_of w) table ∙ places_answers w r.good m p q r.known r.exact f (ran_asked r)

    same : answers_of w m p q f ≡ answers_of w m p q (features_of s)
    same = ap (answers_of w m p q) r.sorted ∙ answers_sorted w m p q (features_of s)

    pub ran_wide : length answers ≡ most_names
    ran_wide = ap length (v.answers e) ∙ length_answers w leasts f sizes_end

    pub ran_enough : touches ≤ allowance
    ran_enough = (spent_most (sum_below sizes_end (touches_by w leasts f)) allowance past touches v.spent e).1

    pub ran_full : (c : Columns) → room_of c < length (places_of w answers) → Searched s m p q allowance w c c (Refused 8 touches)
    ran_full c h =
        let n = ap length (listed ∙ same) in
        searched_refused s m p q allowance w c 8 touches
        (good_runs (room_of c)
        ∙ good_full s m p q allowance w (room_of c) (over ∙ e) (lt-ltb (room_of c) (length (answers_of w m p q (features_of s))) (omega arith))
        ∙ ap (Refused 8) (sym cost))

    -- the rows of the table are the answers'
    rows : table_columns w leasts answers (places_of w answers) ≡ columns_of w m p q (features_of s) (answers_of w m p q (features_of s))
    rows =
        ap₂ (table_columns w leasts) table listed
        ∙ (λ t.
        record {
          ids = ap (map (name_id w)) same t;
          shared = (shared_column w r.good m p q r.known r.exact f (ran_asked r) ∙ ap₂ (λ (g : ℕ → ℕ) (l : List ℕ). map g l) (fun_ext shared) same) t;
          sizes = ap (map (name_size w)) same t;
          least = (least_column ∙ ap₂ (λ (g : ℕ → ℕ) (l : List ℕ). map g l) (fun_ext least) same) t;
        })
      where
        least_column : map (λ (i : ℕ). get_or leasts (name_size w i) 0) (answers_of w m p q f) ≡ map (least_for w m p q f) (answers_of w m p q f)
        least_column =
            column_answers w r.good m p q r.known r.exact f (ran_asked r) (λ (i : ℕ). get_or leasts (name_size w i) 0) (least_for w m p q f)
            (λ i h e. ap (λ (l : List ℕ). get_or l (name_size w i) 0) r.least ∙ least_listed w r.good m p q f i h e)

        least : (i : ℕ) → least_for w m p q f i ≡ least_for w m p q (features_of s) i
        least i = ap (λ (x : ℕ). least_count m p q x (name_size w i)) (ap length r.sorted ∙ length_sort (features_of s))

        shared : (i : ℕ) → shared_with w f i ≡ shared_with w (features_of s) i
        shared i = ap (λ (l : List ℕ). shared_with w l i) r.sorted ∙ shared_sorted w (features_of s) i

    pub ran_found : (c d : Columns) (n : ℕ) → n ≡ length (places_of w answers) → n ≤ room_of c
        → d ≡ columns_over (table_columns w leasts answers (places_of w answers)) c
        → Searched s m p q allowance w c d (Found n touches (lowest_terms p q).p (lowest_terms p q).q)
    unfolding given_by
    ran_found c d n k h g =
        let l = ap length (listed ∙ same) in
        let found = good_runs (room_of c) ∙ good_found s m p q allowance w (room_of c) (over ∙ e) (le-ltb (room_of c) (length (answers_of w m p q (features_of s))) (omega arith)) in
        record {
          answer = ap₂ (λ (x y : ℕ). Found x y (lowest_terms p q).p (lowest_terms p q).q) (k ∙ l) cost ∙ sym found;
          columns =
              g
              ∙ ap (λ (x : Columns). columns_over x c) rows
              ∙ ap (λ (x : Answer). columns_over (columns_of w m p q (features_of s) (given_by x (answers_of w m p q (features_of s)))) c) (sym found);
        }
