-- Words put into, and taken out of, many places of a list. A place is that of a word in the list as it was. The laws are in proofs/Laws.antt.
-- Assumes nothing.
use Rattle.std.specs.Prelude.{List, [], ◌∷◌, ◌++◌, map, ℕ, suc, take, drop}

-- the list with v before what stood at place a; at the end where nothing stood there
abbrev pub put_at : ℕ → ℕ → List ℕ → List ℕ
put_at a v l = take a l ++ v ∷ drop a l

-- the list without what stood at place a; as it was where nothing stood there
abbrev pub taken_at : ℕ → List ℕ → List ℕ
taken_at a l = take a l ++ drop (suc a) l

-- each value before what stood at its place, values of one place in their order; as it was where there are no places or no values. The last is put
-- in first: so all places are those of the list as it was, where they ascend
unfoldable pub put_in : List ℕ → List ℕ → List ℕ → List ℕ
put_in [] vs l = l
put_in (a ∷ at) [] l = l
put_in (a ∷ at) (v ∷ vs) l = put_at a v (put_in at vs l)

-- the list without what stood at the places, which ascend; as it was where there are none. Here too the last goes first
unfoldable pub take_out : List ℕ → List ℕ → List ℕ
take_out [] l = l
take_out (a ∷ at) l = taken_at a (take_out at l)

-- where the values stand that were put in at places that ascend: each at its place and one further on for each before it
unfoldable pub places_of : List ℕ → List ℕ
places_of [] = []
places_of (a ∷ at) = a ∷ map suc (places_of at)
