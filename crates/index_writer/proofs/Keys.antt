-- Keys read back: the size, the feature and the id of a posting, and which postings are of one row.
-- Assumes nothing.
use mathlib.Core.Path.{◌≡◌, refl, sym, ap, ap₂, ◌∙◌}
use mathlib.Core.List.{List, [], ◌∷◌, ◌++◌, map, append-nil, append_assoc}
use Prim.Native.Nat.{ℕ, suc, ◌+◌, ◌*◌, ◌/◌, ◌%◌, ◌<◌}
use native.Mathlib.Nat.{add-zero}
use native.Mathlib.Omega.{arith}
use borrow.Author.Tests.{eq-eqb, eqb-true}
use lib.ListN.{length, get_or, length-append, length-map}
use lib.Seq.{ext_get_or}
use lib.Dec.{eqb}
use Rattle.laws.proofs.Tests.{same_test}
use Rattle.laws.proofs.Images.{get_d_map_lt}
use Rattle.words.specs.Words.{feature_span, key_of}
use Rattle.index_writer.specs.Built.{Entry, id_span, triple_of, triples_of, all_triples}
use Rattle.index_writer.specs.Keys.{place_span, size_at, feature_at, id_at, triple_at, triples_at, keys_of, keys_from, Keyed}
use Rattle.index_writer.specs.Steps.{run_key}

module _ {names keys : List ℕ} (q : Keyed names keys) (i : ℕ) (h : i < length keys) where
  pub triple_at_lem : get_or (triples_at names keys) i 0 ≡ triple_at names (get_or keys i 0)
  triple_at_lem = get_d_map_lt (triple_at names) keys i 0 0 h

  pub id_below : id_at names (get_or keys i 0) < id_span
  id_below = q.ids (get_or keys i 0 % place_span) (q.named i h)

  -- its size and feature as one number, and either of them
  pub triple_key : triple_at names (get_or keys i 0) / id_span ≡ key_of (size_at names (get_or keys i 0)) (feature_at (get_or keys i 0))
  triple_key = let b = id_below in omega arith

  pub triple_size : get_or (triples_at names keys) i 0 / id_span / feature_span ≡ size_at names (get_or keys i 0)
  triple_size = let e = triple_at_lem in let k = triple_key in let f = q.below i h in omega arith

  pub triple_feature : get_or (triples_at names keys) i 0 / id_span % feature_span ≡ feature_at (get_or keys i 0)
  triple_feature = let e = triple_at_lem in let k = triple_key in let f = q.below i h in omega arith

  -- its id
  pub triple_id : get_or (triples_at names keys) i 0 % id_span ≡ id_at names (get_or keys i 0)
  triple_id = let e = triple_at_lem in let b = id_below in omega arith

key_parts : (x f y g : ℕ) → f < feature_span → g < feature_span → key_of x f ≡ key_of y g → (x ≡ y) × (f ≡ g)
key_parts x f y g h k e = (omega arith, omega arith)

-- two postings are of one row where their row keys are equal
pub same_row : {names keys : List ℕ} → Keyed names keys → (i j : ℕ) → i < length keys → j < length keys
    → eqb (run_key names (get_or keys i 0)) (run_key names (get_or keys j 0)) ≡ eqb (get_or (triples_at names keys) i 0 / id_span) (get_or (triples_at names keys) j 0 / id_span)
same_row {names} {keys} q i j h k =
    same_test (eqb (run_key names (get_or keys i 0)) (run_key names (get_or keys j 0))) (eqb (get_or (triples_at names keys) i 0 / id_span) (get_or (triples_at names keys) j 0 / id_span))
    (λ t. let e = eqb-true (run_key names (get_or keys i 0)) (run_key names (get_or keys j 0)) t in
    let c = a in
    let d = b in
    eq-eqb (get_or (triples_at names keys) i 0 / id_span) (get_or (triples_at names keys) j 0 / id_span) (omega arith))
    (λ t. let e = eqb-true (get_or (triples_at names keys) i 0 / id_span) (get_or (triples_at names keys) j 0 / id_span) t in
    let u = key_parts (size_at names (get_or keys i 0)) (feature_at (get_or keys i 0)) (size_at names (get_or keys j 0)) (feature_at (get_or keys j 0)) (q.below i h) (q.below j k) (sym a ∙ e ∙ b) in
    eq-eqb (run_key names (get_or keys i 0)) (run_key names (get_or keys j 0)) (ap₂ (λ (x y : ℕ). x * place_span + y) u.1 u.0))
  where
    a : get_or (triples_at names keys) i 0 / id_span ≡ key_of (size_at names (get_or keys i 0)) (feature_at (get_or keys i 0))
    a = ap (λ (x : ℕ). x / id_span) (triple_at_lem q i h) ∙ triple_key q i h

    b : get_or (triples_at names keys) j 0 / id_span ≡ key_of (size_at names (get_or keys j 0)) (feature_at (get_or keys j 0))
    b = ap (λ (x : ℕ). x / id_span) (triple_at_lem q j k) ∙ triple_key q j k

-- the ids of the postings
pub ids_at : {names keys : List ℕ} → Keyed names keys → map (id_at names) keys ≡ map (λ (k : ℕ). k % id_span) (triples_at names keys)
ids_at {names} {keys} q =
    ext_get_or 0 (map (id_at names) keys) (map (λ (k : ℕ). k % id_span) (triples_at names keys))
    (length-map keys (id_at names) ∙ sym (length-map (triples_at names keys) (λ (k : ℕ). k % id_span) ∙ length-map keys (triple_at names)))
    (λ i h.
    let n = length-map keys (id_at names) in
    let m = length-map keys (triple_at names) in
    get_d_map_lt (id_at names) keys i 0 0 (omega arith)
    ∙ sym (get_d_map_lt (λ (k : ℕ). k % id_span) (triples_at names keys) i 0 0 (omega arith) ∙ triple_id q i (omega arith)))

-- ---- of names

-- one name more
pub keys_append : (i : ℕ) (es : List Entry) (e : Entry) → keys_from i (es ++ (e ∷ [])) ≡ keys_from i es ++ keys_of (i + length es) e
unfolding keys_from
keys_append i [] e = append-nil (keys_of i e) ∙ ap (λ (n : ℕ). keys_of n e) (sym (add-zero i))
keys_append i (x ∷ es) e =
    let q : suc i + length es ≡ i + suc (length es) = omega arith in
    ap (λ (l : List ℕ). keys_of i x ++ l) (keys_append (suc i) es e)
    ∙ sym (append_assoc (keys_of i x) (keys_from (suc i) es) (keys_of (suc i + length es) e))
    ∙ ap (λ (n : ℕ). (keys_of i x ++ keys_from (suc i) es) ++ keys_of n e) q

pub length_keys : (i : ℕ) (e : Entry) → length (keys_of i e) ≡ length e.features
unfolding keys_of
length_keys i e = length-map e.features (λ (f : ℕ). f * place_span + i)

-- as many as postings
pub keys_triples : (i : ℕ) (es : List Entry) → length (keys_from i es) ≡ length (all_triples es)
unfolding keys_from all_triples triples_of
keys_triples i [] = refl
keys_triples i (e ∷ es) =
    let a = length-append (keys_of i e) (keys_from (suc i) es) in
    let b = length_keys i e in
    let c = length-append (triples_of e) (all_triples es) in
    let d = length-map e.features (λ (f : ℕ). triple_of (length e.features) f e.id) in
    let g = keys_triples (suc i) es in
    omega arith
