-- Names by ascending id, with one name more and with one less. The laws are in proofs/Names.antt.
-- Assumes nothing.
use Rattle.std.specs.Prelude.{cond, not, List, [], ◌∷◌, map, ℕ, eqb, leb}
use Rattle.laws.specs.Filter.{filter_of}
use Rattle.index_writer.specs.Built.{Entry}

-- the ids, in order
abbrev pub ids_of : List Entry → List ℕ
ids_of es = map (λ (e : Entry). e.id) es

-- the name put before the first whose id is not below its own; at the end where all are below
unfoldable pub with_entry : Entry → List Entry → List Entry
with_entry e [] = e ∷ []
with_entry e (x ∷ es) = let r = with_entry e es in cond (leb e.id x.id) (e ∷ x ∷ es) (x ∷ r)

-- the names of other ids, in order; all of them where no name has the id
abbrev pub without_id : ℕ → List Entry → List Entry
without_id id es = filter_of (λ (e : Entry). not (eqb e.id id)) es
