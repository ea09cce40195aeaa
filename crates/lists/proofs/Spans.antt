-- The part of a list lies within the words, and is as long as the list. Cited by whoever keeps a list's place in numbers.
-- Assumes nothing.
use mathlib.Core.Path.{◌≡◌, sym, ap, ◌∙◌}
use mathlib.Core.Logic.{⊎_elim}
use mathlib.Core.List.{List}
use Prim.Native.Nat.{ℕ, ◌+◌, ◌-◌, ◌≤◌, ◌<◌}
use native.Mathlib.Omega.{arith}
use lib.ListN.{length, drop, length-drop}
use lib.Seq.{length-take-le}
use borrow.Author.Tests.{lt-ltb}
use Rattle.laws.proofs.Order.{le_or_lt}
use Rattle.words.specs.Words.{row_count}
use Rattle.index.specs.Good.{Good}
use Rattle.lists.specs.Part.{Span}
use Rattle.lists.specs.Lists.{row_for, span_at, span_in, list_in}
use Rattle.lists.proofs.Laws.{span_words}
use Rattle.lists.proofs.Rows.{list_end, span_past}

span_at_within : (w : List ℕ) → Good w → (r : ℕ) → (span_at w r).start + (span_at w r).count ≤ length w
span_at_within w g r =
    ⊎_elim
    (λ (h : row_count w ≤ r). rw (span_past w r h) (omega arith))
    (λ (h : r < row_count w). let e = list_end w g r h in unfold span_at in (rw (lt-ltb r (row_count w) h) e))
    (le_or_lt (row_count w) r)

pub span_within : (w : List ℕ) → Good w → (y f : ℕ) → (span_in w y f).start + (span_in w y f).count ≤ length w
unfolding span_in
span_within w g y f = span_at_within w g (row_for w y f)

pub span_count : (w : List ℕ) → Good w → (y f : ℕ) → (span_in w y f).count ≡ length (list_in w y f)
span_count w g y f =
    let h = span_within w g y f in
    let s : Span = span_in w y f in
    let n : length (drop s.start w) ≡ length w - s.start = length-drop s.start w in
    sym (length-take-le s.count (drop s.start w) (omega arith)) ∙ ap length (span_words w y f)
