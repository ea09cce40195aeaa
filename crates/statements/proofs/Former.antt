-- An index of names that were let in before is good and is searched by their features: specs/Former.antt says what, this file cites why.
-- Assumes nothing.
use mathlib.Core.Path.{◌≡◌, refl, ap}
use mathlib.Core.List.{List, [], ◌∷◌, map}
use Prim.Native.Nat.{ℕ}
use native.Mathlib.Omega.{arith}
use lib.ListN.{length-map}
use Rattle.laws.specs.Each.{Each}
use Rattle.laws.proofs.Members.{member_place, each_nil, each_cons, each_first, each_rest}
use Rattle.names.specs.Features.{features_by, gram_length, characters}
use Rattle.names.proofs.Laws.{length_features_by, distinct_features_by, feature_fits_by}
use Rattle.index_writer.specs.Built.{Entry, EntryFit, Fit}
use Rattle.index_writer.proofs.Built.{built_name_count, built_id, built_size, built_good, built_features}
use Rattle.statements.specs.Demands.{with_words, Holds}
use Rattle.statements.specs.Former.{of_entries, index_of, Indexed, IdName, LetIn, entry_then, Former}
use Rattle.statements.proofs.Listing.{listings}

-- ---- the index of any names with their features

holds_entries : (es : List Entry) (rest : List ℕ) → Fit es → Holds (index_of es rest) (of_entries es)
holds_entries es rest fit =
    record {
      count = built_name_count es rest;
      id = built_id es fit rest;
      size = built_size es fit rest;
      features = built_features es fit rest;
    }

pub indexed : Indexed
indexed es rest fit =
    record {
      good = built_good es fit rest;
      holds = holds_entries es rest fit;
      listed = (
        λ a b n. (listings (of_entries es)).0 (with_words (index_of es rest) a) (holds_entries es rest fit) b n,
        λ a b n. (listings (of_entries es)).1 (with_words (index_of es rest) a) (holds_entries es rest fit) b n,
      );
    }

-- ---- names that were let in before

fit_then : (r : IdName) → LetIn r → EntryFit (entry_then r)
fit_then r l =
    let n = length_features_by gram_length characters r.name in
    let p = l.some in
    let q = l.short in
    record {
      id = l.id;
      least = omega arith;
      most = omega arith;
      distinct = distinct_features_by gram_length characters r.name (omega arith);
      below = λ f m.
          let p = member_place f (features_by gram_length characters r.name) m in
          let b = feature_fits_by r.name l.bytes l.short p.0 in
          let e = p.2 in
          omega arith;
    }

each_then : (rs : List IdName) → Each LetIn rs → Each EntryFit (map entry_then rs)
each_then [] h = each_nil EntryFit
each_then (r ∷ rs) h = each_cons EntryFit (entry_then r) (map entry_then rs) (fit_then r (each_first LetIn r rs h)) (each_then rs (each_rest LetIn r rs h))

ids_then : (rs : List IdName) → map (λ (e : Entry). e.id) (map entry_then rs) ≡ map (λ (r : IdName). r.id) rs
ids_then [] = refl
ids_then (r ∷ rs) = ap (λ (l : List ℕ). r.id ∷ l) (ids_then rs)

pub former : Former
former rs rest k = indexed (map entry_then rs) rest fit
  where
    fit : Fit (map entry_then rs)
    fit =
        let n = length-map rs entry_then in
        let f = k.few in
        record { few = omega arith; ids = rw (ids_then rs) k.ids; each = each_then rs k.each }
