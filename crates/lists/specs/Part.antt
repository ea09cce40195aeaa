-- A part of lent words, in the very place where it lies.
-- Assumes nothing.
use Rattle.std.specs.Prelude.{◌≡◌, List, ℕ, ◌+◌, ◌*◌, take, drop}
use Rattle.std.specs.Borrow.{Bor}

-- `count` words from `start` on
pub record Span : Type 0 where
  pub start : ℕ
  pub count : ℕ

-- no words, at the start of the slice
abbrev pub none : Span
none = record { start = 0; count = 0 }

-- the words of a part
abbrev pub cut : Span → List ℕ → List ℕ
cut p w = take p.count (drop p.start w)

-- r is that part of s: the same words, in the same block, four bytes a word further on
pub record Part (s r : Bor (List ℕ)) (p : Span) : Type 0 where
  pub words : r.now ≡ cut p s.now
  pub block : r.ref_ptr.0 ≡ s.ref_ptr.0
  pub place : r.ref_ptr.1 ≡ s.ref_ptr.1 + 4 * p.start
