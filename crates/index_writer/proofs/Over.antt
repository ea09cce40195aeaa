-- A table written over the whole of a list, and a part of a list put back. Assumes nothing.
use mathlib.Core.Path.{◌≡◌, sym, ap, ap₂, ◌∙◌}
use mathlib.Core.List.{List, ◌++◌, append-nil, append_assoc}
use Prim.Native.Nat.{ℕ, ◌+◌, ◌<◌, ◌≤◌}
use borrow.Rule.Slice.PartMut.{put_mid}
use lib.ListN.{length, get_or, take, drop}
use lib.Seq.{drop-length, drop-drop}
use Rattle.std.proofs.lemmas.List.Edits.{sets, sets-eq}
use Rattle.laws.specs.Lists.{tabulate}
use Rattle.laws.proofs.Images.{tabulate_of}
use Rattle.laws.proofs.Tables.{table_over}

pub over_all : (f : ℕ → ℕ) (l r : List ℕ) (d : ℕ) → length r ≡ length l → ((i : ℕ) → i < length l → get_or r i d ≡ f i) → table_over f (length l) l ≡ r
over_all f l r d e same =
    ap (λ (t : List ℕ). tabulate f (length l) ++ t) (drop-length l)
    ∙ append-nil (tabulate f (length l))
    ∙ sym (tabulate_of f (length l) d r e same)

-- a part is put back that holds these: they are stored one after the other
pub mid_sets : (l : List ℕ) (at k : ℕ) (ys vs : List ℕ) → ys ≡ vs → k ≡ length vs → at + length vs ≤ length l → put_mid at k l ys ≡ sets l at vs
mid_sets l at k ys vs e f h =
    ap₂ (λ (zs t : List ℕ). take at l ++ (zs ++ t)) e (drop-drop k at l ∙ ap (λ (n : ℕ). drop (at + n) l) f)
    ∙ sym (sets-eq vs l at h ∙ append_assoc (take at l) vs (drop (at + length vs) l))
