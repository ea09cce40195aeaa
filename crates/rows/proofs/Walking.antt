-- Steps for a walk of code by hand, with which a function's locals stand in order: local i at entry i of the context.
--     entries    so many entries, from one on, for `move` and `keep`
--     begins     the function is entered: its locals, that each dies, and what there was
--     lets_go    it has returned: its locals go
--     copies     entry n is owned once more
--     local      the value of a local, as an operand
--     number     a number that the code has in it, as an operand, whether it is spelled as a small one or as a large one
--     lets       a local is given its first value
--     asks       a call by the callee's contract: from [the tokens, with what the parameters own; ..] to [what it ensures; the last lists; its result; the tokens; ..]
--     counts     a loop that counts k up to n
-- Assumes `Logic`, and that the table of calls is monotone under a frame, as every `Tables` is.
use mathlib.Core.Path.{◌≡◌, sym, subst}
use mathlib.Core.List.{[], ◌∷◌, List, ◌++◌}
use Prim.Native.Nat.{ℕ, zero, suc, ◌+◌, ◌<◌, ◌^◌}
use native.Mathlib.Omega.{arith}
use lib.Dec.{T as Yes}
use borrow.Author.Tests.{lt-ltb}
use seplogic.Ra.Ura.{Ura}
use base.Fraction.{full_share}
use mir.Syntax.{Callee, Ty, Place, place, Opd as Operand, copy, int, int_neg, int_big, float, opd_true, opd_false, opd_unit, ptr_const, size_of, align_of, num_of, fn_addr, vtable, Rv as RValue, Body, seq, assign, call, loop, Local, local as local', Fn}
use mir.Val.{Val, vint, WT, Fits, bits, has_ty}
use base.Logic.{SProp, ent, sep, emp, via, id⊢, mono_l, mono_r, assoc∗, snd∗, guard_i}
use base.Fml.{Share, Fml, ftrue, fsep, fat, froom, fdies}
use prog.Wp.{Out, Env, spot_of, after_turn, Calls, Loops, Wp, WpFn, release, Tables}
use types.Logic.{Logic, sem}
use sound.Loop.{unroll}
use sound.WpLaws.{FmC}
use types.Kit.{Item, ‵, raw, some, later, ◌⊛◌, ⋆, mean, nth, del, put, pull, unpull, push, pop, ++⊢, ⊢++, Post, at_ret, Goal, prop, runs, lands, allocs, params', frees, aim, Seq, Step, step, ◌$◌, ◌∵◌, !, qed, by, move, use0, use1, recast, split, join, pick, fsplit, fjoin, suffices, frame, await, done}
use types.Run.{Opd, Opds, Rv, init, stop, from, load, lit, look, assigns, enter, alloc1, alloc0}
use denote.Steps.{nothing}
use denote.RattleType.{RattleType, owns}
use denote.Laws.{Copy}
use denote.Signature.{Signature, type_at, types_at}
use denote.Triple.Bound.{passed}
use denote.Triple.Call.{calls_from}
use denote.Triple.Clauses.{Ended, Clauses, Lasts, at_exit, lasts, closing}
use denote.Triple.Entry.{Res, alive}
use denote.Triple.Spec.{triple_of}
use denote.Triple.Statement.{Triple}

-- the n entries from a on
abbrev pub entries : ℕ → ℕ → List ℕ
entries a zero = []
entries a (suc n) = a ∷ entries (suc a) n

-- the operand is a number that is written in the code, with that value: a small one and a large one are spelled apart
abbrev pub Numeral : Operand → Val → Type 0
Numeral (copy p) v = ⊥
Numeral (int w n) v = Fits w n × (v ≡ vint w n)
Numeral (int_neg w n) v = ⊥
Numeral (int_big w n) v = Fits w n × (v ≡ vint w n)
Numeral (float f n) v = ⊥
Numeral opd_true v = ⊥
Numeral opd_false v = ⊥
Numeral opd_unit v = ⊥
Numeral (ptr_const n) v = ⊥
Numeral (size_of τ) v = ⊥
Numeral (align_of τ) v = ⊥
Numeral (num_of w τ) v = ⊥
Numeral (fn_addr f s) v = ⊥
Numeral (vtable τ ss) v = ⊥

-- a block for each local, and the locals with them
abbrev pub Blocks : List Local → Type 0
Blocks [] = Unit {0}
Blocks (local' τ h ∷ ls) = ℕ × Blocks ls

abbrev pub env_of : (ls : List Local) → Blocks ls → List (Ty × ℕ)
env_of [] bs = []
env_of (local' τ h ∷ ls) bs = (τ, bs.0) ∷ env_of ls bs.1

-- room for each, and that each dies
abbrev pub rooms : {M : Type 1} (𝓤 : Ura M) → List (Ty × ℕ) → List (Item 𝓤)
rooms 𝓤 [] = []
rooms 𝓤 (e ∷ E) = ‵ (froom e.0 e.1 zero) ∷ rooms 𝓤 E

abbrev pub die : List (Ty × ℕ) → Fml
die [] = ftrue
die (e ∷ E) = fsep (fdies e.0 e.1) (die E)

module _ {M : Type 1} {𝓤 : Ura M} (𝓛 : Logic 𝓤) where
  -- one local more
  open 𝓛 use {H}

  more_room : (e : Ty × ℕ) (E : List (Ty × ℕ)) (Γ : List (Item 𝓤))
      → ent 𝓤 (⋆ 𝓛 (rooms 𝓤 E ++ (‵ (die E) ∷ ‵ (froom e.0 e.1 zero) ∷ ‵ (fdies e.0 e.1) ∷ Γ))) (⋆ 𝓛 (rooms 𝓤 (e ∷ E) ++ (‵ (die (e ∷ E)) ∷ Γ)))
  more_room e E Γ =
      via 𝓤 _ (⊢++ 𝓛 (rooms 𝓤 E) (‵ (die E) ∷ ‵ (froom e.0 e.1 zero) ∷ ‵ (fdies e.0 e.1) ∷ Γ))
      (qed 𝓛 (raw (⋆ 𝓛 (rooms 𝓤 E)) ∷ ‵ (die E) ∷ ‵ (froom e.0 e.1 zero) ∷ ‵ (fdies e.0 e.1) ∷ Γ) ∵
      move ! (3 ∷ 1 ∷ []) $ fjoin ! $ move ! (2 ∷ 1 ∷ 0 ∷ []) $ suffices ! _ (push 𝓛 (‵ (froom e.0 e.1 zero)) (rooms 𝓤 E ++ (‵ (die (e ∷ E)) ∷ Γ))) $
      frame ! $ by ! (++⊢ 𝓛 (rooms 𝓤 E) (‵ (die (e ∷ E)) ∷ Γ)))

  release_all : (E : List (Ty × ℕ)) (P : SProp 𝓤) → ent 𝓤 (sep 𝓤 (⋆ 𝓛 (rooms 𝓤 E)) (sep 𝓤 (sem 𝓛 (die E)) P)) (release 𝓤 H E P)
  release_all [] P = via 𝓤 (sep 𝓤 (emp 𝓤) P) (snd∗ 𝓤 (emp 𝓤) (sep 𝓤 (emp 𝓤) P)) (snd∗ 𝓤 (emp 𝓤) P)
  release_all (e ∷ E) P =
      qed 𝓛 (raw (⋆ 𝓛 (rooms 𝓤 (e ∷ E))) ∷ ‵ (die (e ∷ E)) ∷ raw P ∷ []) ∵
      use1 𝓛 (‵ (froom e.0 e.1 zero) ⊛ raw (⋆ 𝓛 (rooms 𝓤 E))) (pop 𝓛 (‵ (froom e.0 e.1 zero)) (rooms 𝓤 E)) $ split ! $
      move ! (2 ∷ []) $ fsplit ! $ move ! (2 ∷ 0 ∷ []) $ join ! $ frame ! $ move ! (1 ∷ 0 ∷ []) $ by ! (release_all E P)

module _ {M : Type 1} {𝓤 : Ura M} {𝓛 : Logic 𝓤} {K : Type 0} where
  open 𝓛 use {H}

  allots : K → {Γ : List (Item 𝓤)} (ls : List Local) {Kt : Env 𝓤 H → Goal 𝓤 H}
      → ((bs : Blocks ls) → Seq K 𝓛 (rooms 𝓤 (env_of ls bs) ++ (‵ (die (env_of ls bs)) ∷ Γ)) (Kt (env_of ls bs))) → Seq K 𝓛 Γ (allocs ls Kt)
  allots t [] k = alloc0 t $ nothing t $ k tt
  allots t {Γ} (local' τ h ∷ ls) {Kt} k =
      alloc1 t (λ b. allots t {Γ = ‵ (froom τ b zero) ∷ ‵ (fdies τ b) ∷ Γ} ls {Kt = λ E. Kt ((τ, b) ∷ E)} (λ bs. by t (via 𝓤 _ (more_room 𝓛 (τ, b) (env_of ls bs) Γ) (k (b, bs)).prf)))

  pub begins : K → {Γ : List (Item 𝓤)} (C : Calls 𝓤 H) (Λ : Loops 𝓤 H) (f : Fn) (vs : List Val) (Kf : Val → SProp 𝓤)
      → ((bs : Blocks f.locals) → Seq K 𝓛 (rooms 𝓤 (env_of f.locals bs) ++ (‵ (die (env_of f.locals bs)) ∷ Γ)) (params' (env_of f.locals bs) vs (runs C Λ (env_of f.locals bs) f.body (at_ret (env_of f.locals bs) Kf))))
      → Seq K 𝓛 Γ (prop (WpFn 𝓤 H C Λ f vs Kf))
  begins t C Λ f vs Kf k = enter t C Λ f vs Kf $ allots t f.locals k

  pub lets_go : K → {Γ : List (Item 𝓤)} {E : Env 𝓤 H} {g : Goal 𝓤 H} → Step K 𝓛 Γ g (rooms 𝓤 E ++ (‵ (die E) ∷ Γ)) (frees E g)
  lets_go t {Γ} {E} {g} = step (λ s. by t
      (via 𝓤 _ (⊢++ 𝓛 (rooms 𝓤 E) (‵ (die E) ∷ Γ))
      (via 𝓤 _ (mono_r 𝓤 (⋆ 𝓛 (rooms 𝓤 E)) (via 𝓤 _ (pop 𝓛 (‵ (die E)) Γ) (mono_r 𝓤 (sem 𝓛 (die E)) s.prf))) (release_all 𝓛 E (aim 𝓤 H g)))))

  pub copies : K → {Γ : List (Item 𝓤)} {G : Goal 𝓤 H} (n : ℕ) (R : RattleType) → Copy 𝓛 R → (x : R.Denot) (vs : List Val) → nth 𝓛 n Γ ≡ ‵ (R.own_val x vs) → Step K 𝓛 (‵ (R.own_val x vs) ∷ Γ) G Γ G
  copies t {Γ} n R twice x vs e = step (λ s. by t
      (via 𝓤 _ (subst (λ (i : Item 𝓤). ent 𝓤 (⋆ 𝓛 Γ) (sep 𝓤 (mean 𝓛 i) Rest)) e (pull 𝓛 n Γ))
      (via 𝓤 _ (mono_l 𝓤 Rest (twice.twice x vs))
      (via 𝓤 _ (assoc∗ 𝓤 Own Own Rest)
      (via 𝓤 _ (mono_r 𝓤 Own (subst (λ (i : Item 𝓤). ent 𝓤 (sep 𝓤 (mean 𝓛 i) Rest) (⋆ 𝓛 Γ)) e (unpull 𝓛 n Γ)))
      (via 𝓤 _ (push 𝓛 (‵ (R.own_val x vs)) Γ) s.prf))))))
    where
      Own : SProp 𝓤
      Own = sem 𝓛 (R.own_val x vs)

      Rest : SProp 𝓤
      Rest = ⋆ 𝓛 (del 𝓛 n Γ)

  module _ {Γ : List (Item 𝓤)} {E : Env 𝓤 H} where
    pub local : K → (n : ℕ) {i : ℕ} {q : Share} {v : Val} → nth 𝓛 n Γ ≡ ‵ (fat q (spot_of 𝓤 H E i).0 (spot_of 𝓤 H E i).1 zero v) → Opd K 𝓛 Γ E (copy (place i [])) v
    local t n e = load t (from t (stop t)) (look t n e)

    spelled : K → (x : Operand) {v : Val} → Numeral x v → Opd K 𝓛 Γ E x v
    spelled t (copy p) f = absurd f
    spelled t (int w n) f = subst (Opd K 𝓛 Γ E (int w n)) (sym f.1) (lit t (subst Yes (sym (lt-ltb n (2 ^ bits w) f.0.fits)) tt))
    spelled t (int_neg w n) f = absurd f
    spelled t (int_big w n) f = subst (Opd K 𝓛 Γ E (int_big w n)) (sym f.1) (record { go = λ Kt h. via 𝓤 (Kt (vint w n)) h (guard_i 𝓤 (Fits w n) (Kt (vint w n)) f.0) })
    spelled t (float g n) f = absurd f
    spelled t opd_true f = absurd f
    spelled t opd_false f = absurd f
    spelled t opd_unit f = absurd f
    spelled t (ptr_const n) f = absurd f
    spelled t (size_of τ) f = absurd f
    spelled t (align_of τ) f = absurd f
    spelled t (num_of w τ) f = absurd f
    spelled t (fn_addr g s) f = absurd f
    spelled t (vtable τ ss) f = absurd f

    pub number : K → {x : Operand} {v : Val} → Numeral x v → Opd K 𝓛 Γ E x v
    number t {x} f = spelled t x f

    module _ {C : Calls 𝓤 H} {Λ : Loops 𝓤 H} {q : Post 𝓤 H} where
      pub lets : K → (n : ℕ) {i : ℕ} {rv : RValue} {rest : Body} {v : Val} → nth 𝓛 n Γ ≡ ‵ (froom (spot_of 𝓤 H E i).0 (spot_of 𝓤 H E i).1 zero) → Rv K 𝓛 Γ E rv v → Yes (has_ty (spot_of 𝓤 H E i).0 v) × WT v
          → Step K 𝓛 (put 𝓛 n (‵ (fat full_share (spot_of 𝓤 H E i).0 (spot_of 𝓤 H E i).1 zero v)) Γ) (runs C Λ E rest q) Γ (runs C Λ E (seq (assign (place i []) rv) rest) q)
      lets t n e rv wt = assigns t rv (from t (stop t)) (init t n e wt)

      pub asks : K → FmC 𝓤 H 𝓛.laws C → {f : Callee} {xs : List Operand} {d : Place} {rest : Body} (T : Ended) (c : Clauses 𝓤 T)
          → Triple 𝓤 (C f) (triple_of 𝓛 T.signature (closing 𝓛 T c)) → (y : (triple_of 𝓛 T.signature (closing 𝓛 T c)).Ghost)
          → {tokens owned : Item 𝓤} → mean 𝓛 tokens ≡ alive 𝓛 T.signature y.0.0 y.0.1 → mean 𝓛 owned ≡ sem 𝓛 (owns (types_at T.signature.params y.0.0) y.0.3 y.0.4)
          → ent 𝓤 (emp 𝓤) ((c y.0.0 y.0.3).requires y.1) → Opds K 𝓛 ((tokens ⊛ owned) ∷ Γ) E xs (passed 𝓛 T.signature y.0)
          → ((v : Val) (r : Res T.signature y.0.0) (ws : Lasts T y.0.0 y.0.3)
          → Seq K 𝓛 (raw ((c y.0.0 y.0.3).ensures y.1 r (at_exit T y.0.0 y.0.3 ws)) ∷ ‵ (lasts T y.0.0 y.0.3 ws) ∷ ‵ ((type_at T.signature.result y.0.0).own_val r (v ∷ [])) ∷ tokens ∷ Γ) (lands C Λ E d v rest q))
          → Seq K 𝓛 ((tokens ⊛ owned) ∷ Γ) (runs C Λ E (seq (call f xs d) rest) q)
      asks t fm {d = d} {rest = rest} T c met y {tokens} {owned} et eo requires xs k =
          calls_from t fm (tokens ⊛ owned) (passed 𝓛 S y.0) ((triple_of 𝓛 S (closing 𝓛 T c)).post y) (via 𝓤 _ given (met y)) xs (λ v.
          use1 𝓛 (later (some (λ (r : Res S y.0.0). (raw Alive ⊛ ‵ ((type_at S.result y.0.0).own_val r (v ∷ []))) ⊛ some (λ (ws : Lasts T y.0.0 y.0.3). ‵ (lasts T y.0.0 y.0.3 ws) ⊛ raw (Ensures r ws))))) (id⊢ 𝓤 _) $
          await t tt $ pick t (λ r. split t $ split t $ recast 𝓛 tokens (sym et) $ move t (2 ∷ []) $ pick t (λ ws. split t $ move t (1 ∷ 0 ∷ 3 ∷ 2 ∷ []) $ k v r ws)))
        where
          S : Signature
          S = T.signature

          Alive : SProp 𝓤
          Alive = alive 𝓛 S y.0.0 y.0.1

          Ensures : Res S y.0.0 → Lasts T y.0.0 y.0.3 → SProp 𝓤
          Ensures r ws = (c y.0.0 y.0.3).ensures y.1 r (at_exit T y.0.0 y.0.3 ws)

          given : ent 𝓤 (sep 𝓤 (mean 𝓛 tokens) (mean 𝓛 owned)) ((triple_of 𝓛 S (closing 𝓛 T c)).pre y)
          given =
              qed 𝓛 (tokens ∷ owned ∷ []) ∵ recast 𝓛 (raw Alive) et $ move ! (1 ∷ []) $ recast 𝓛 (‵ (owns (types_at S.params y.0.0) y.0.3 y.0.4)) eo $ move ! (1 ∷ 0 ∷ []) $ join ! $
              use0 𝓛 (raw ((c y.0.0 y.0.3).requires y.1)) requires $ move ! (1 ∷ 0 ∷ []) $ done !

-- ---- a loop that counts k up to n: `At k` stands before turn k, each turn below n makes the next of it, and the turn at n leaves the loop
module _ {M : Type 1} {𝓤 : Ura M} (𝓛 : Logic 𝓤) (𝓣 : Tables 𝓤 𝓛.H) (n : ℕ) (At : ℕ → List (Item 𝓤)) (E : Env 𝓤 𝓛.H) (b : Body) (Q : Out → SProp 𝓤)
    (turn : (k : ℕ) (X : SProp 𝓤) → k < n → ent 𝓤 (⋆ 𝓛 (At (suc k))) X → ent 𝓤 (⋆ 𝓛 (At k)) (Wp 𝓤 𝓛.H 𝓣.C 𝓣.Λ E b (after_turn 𝓤 𝓛.H X Q)))
    (last : (X : SProp 𝓤) → ent 𝓤 (⋆ 𝓛 (At n)) (Wp 𝓤 𝓛.H 𝓣.C 𝓣.Λ E b (after_turn 𝓤 𝓛.H X Q))) where
  open 𝓛 use {H}

  abbrev Loop : SProp 𝓤
  Loop = 𝓣.Λ b E Q

  left : (d k : ℕ) → k + d ≡ n → ent 𝓤 (⋆ 𝓛 (At k)) Loop
  left zero k e =
      let f : n ≡ k = omega arith in
      via 𝓤 _ (subst (λ (j : ℕ). ent 𝓤 (⋆ 𝓛 (At j)) (Wp 𝓤 H 𝓣.C 𝓣.Λ E b (after_turn 𝓤 H Loop Q))) f (last Loop)) (unroll 𝓤 H 𝓛.laws 𝓣 E b Q Loop (id⊢ 𝓤 Loop))
  left (suc d) k e =
      let small : k < n = omega arith in
      let f : suc k + d ≡ n = omega arith in
      via 𝓤 _ (turn k Loop small (left d (suc k) f)) (unroll 𝓤 H 𝓛.laws 𝓣 E b Q Loop (id⊢ 𝓤 Loop))

  pub counts : ent 𝓤 (⋆ 𝓛 (At 0)) (Wp 𝓤 H 𝓣.C 𝓣.Λ E (loop b) Q)
  counts = let e : 0 + n ≡ n = omega arith in via 𝓤 Loop (left n 0 e) (𝓛.laws.⇛_intro Loop)
