-- Laws for any walk by hand.
--     answered       a call's answer, for a callee over one lifetime whose parameters are read only. The callee has returned a machine value,
--                    and its contract ensures a fact φ of the result. The walk goes on with the result r, φ of r, r's relation to its machine
--                    value, and that machine value written out; it has what r owns and the lifetime's token, in front of what it had.
--                    What the contract says of last values is let go: a parameter that is only read has none.
--     field_owned    what a struct owns gives what its k-th field owns, and what the others own is let go
--     met            a walk, at each choice of lifetimes, shares and arguments, taken to the contract; what the contract requires is not asked for
use Prim.Native.Nat.{ℕ}
use mathlib.Core.Path.{◌≡◌, ap, subst, subst⁻¹}
use mathlib.Core.List.{List, [], ◌∷◌}
use seplogic.Ra.Ura.{Ura}
use mir.Syntax.{Place, Body, Fn}
use mir.Val.{Val, vstruct}
use base.Logic.{ent, sep, ex, ex_e, emp, via, fst∗, snd∗, id⊢}
use base.Fml.{Lft, Share, Fml, ftrue, flft}
use prog.Wp.{Env, Calls, Loops, WpFn, Tables}
use types.Logic.{Logic, sem}
use contract.Lifetimes.{Lfts, Shares, AllOutlive}
use contract.Monad.{fact}
use types.Kit.{Item, Post, lands, Seq, ‵, raw, given, ◌⊛◌, some, later, ◌$◌, !, qed, move, drop, learn, use1, split, pick, await, done}
use sound.WpLaws.{WpFn-mono}
use denote.RattleType.{RattleType, flat}
use denote.Laws.{Is, Are, Ises, Spells, Tellss, shows, valss}
use denote.Lowered.{Lowered}
use denote.Steps.{only, peeks, heard}
use denote.Struct.At.{get_at, spelled}
use denote.Struct.Declared.{Declared, shape}
use denote.Struct.Laws as LL
use denote.Struct.Rest.{all_own, field_own, rest, own_open, own_out}
use denote.Struct.Struct.{Struct}
use denote.Struct.Values.{Values, intos}
use denote.Signature.{types_at}
use denote.Triple.Clauses.{Ended, Clauses, closing}
use denote.Triple.Entry.{Args, on_entry}
use denote.Triple.Spec.{Meets}
use denote.Triple.Walked.{Stays, AllGo, walk_of, walked, walk_Meets}

module _ {M : Type 1} {𝓤 : Ura M} {𝓛 : Logic 𝓤} {K : Type 0} {Γ : List (Item 𝓤)} {C : Calls 𝓤 𝓛.H} {Λ : Loops 𝓤 𝓛.H} {E : Env 𝓤 𝓛.H} {d : Place} {rest : Body} {Q : Post 𝓤 𝓛.H} where
  open 𝓛 use {H, A}

  pub answered : K → (R : RattleType) (l : Lowered R) {κ : Lft} {q : Share} {X : Type 0} (lasts : X → Fml) (φ : R.Denot → Type 0)
      → ((r : R.Denot) → φ r → Is R r (l.lowered r ∷ []) → Seq K 𝓛 (‵ (R.own_val r (l.lowered r ∷ [])) ∷ (‵ (flft κ q) ⊛ ‵ ftrue) ∷ Γ) (lands C Λ E d (l.lowered r) rest Q))
      → (u : Val)
      → Seq K 𝓛 (raw (H.⇛ (ex 𝓤 (λ (r : R.Denot). sep 𝓤 (sep 𝓤 (sep 𝓤 (A.lft κ q) (emp 𝓤)) (sem 𝓛 (R.own_val r (u ∷ [])))) (ex 𝓤 (λ (x : X). sep 𝓤 (sem 𝓛 (lasts x)) (fact 𝓤 (φ r))))))) ∷ Γ) (lands C Λ E d u rest Q)
  answered t R l {κ} {q} {X} lasts φ k u =
      use1 𝓛 (later (some (λ (r : R.Denot). ((‵ (flft κ q) ⊛ ‵ ftrue) ⊛ ‵ (R.own_val r (u ∷ []))) ⊛ raw (ex 𝓤 (λ (x : X). sep 𝓤 (sem 𝓛 (lasts x)) (fact 𝓤 (φ r))))))) (id⊢ 𝓤 _) $ await t tt $ pick t (λ r.
      split t $ move t (1 ∷ []) $ use1 𝓛 (raw (fact 𝓤 (φ r))) (ex_e 𝓤 _ (λ x. snd∗ 𝓤 (sem 𝓛 (lasts x)) (fact 𝓤 (φ r)))) $ heard t (φ r) (λ e. split t $ move t (1 ∷ []) $
      peeks t R (Is R) (shows 𝓛 R) r (u ∷ []) (λ is.
      subst⁻¹ (λ (w : Val). Seq K 𝓛 (‵ (R.own_val r (w ∷ [])) ∷ (‵ (flft κ q) ⊛ ‵ ftrue) ∷ Γ) (lands C Λ E d w rest Q)) (ap only (l.val_is r (u ∷ []) is))
      (k r e (subst (λ (w : Val). Is R r (w ∷ [])) (ap only (l.val_is r (u ∷ []) is)) is)))))

pub field_owned : {M : Type 1} {𝓤 : Ura M} (𝓛 : Logic 𝓤) (N : Declared) (L : LL.Laws N) (k : ℕ) (v : Values N.parts) (w : Val)
    → ent 𝓤 (sem 𝓛 ((Struct (shape N)).own_val (intos N.parts v) (w ∷ []))) (sem 𝓛 (field_own N.parts L k (get_at N.parts k v)))
field_owned 𝓛 N L k v w =
    qed 𝓛 (‵ ((Struct (shape N)).own_val (intos N.parts v) (w ∷ [])) ∷ []) {P = sem 𝓛 (field_own N.parts L k (get_at N.parts k v))} (
    use1 𝓛 (given (w ∷ [] ≡ vstruct (spelled N.parts L v) ∷ []) (‵ (all_own N.parts L v))) (own_open 𝓛 N L v w) $ learn ! (λ _.
    use1 𝓛 (‵ (field_own N.parts L k (get_at N.parts k v)) ⊛ ‵ (rest N.parts L k v)) (own_out 𝓛 N.parts L k v) $ split ! $ move ! (1 ∷ []) $ drop ! $ done !))

module _ {M : Type 1} {𝓤 : Ura M} (𝓛 : Logic 𝓤) (T : Ended) (hs : Stays T.signature.params T.kept) (c : Clauses 𝓤 T) (𝓣 : Tables 𝓤 𝓛.H) (F : Fn) where
  open 𝓛 use {H}

  pub met : AllGo 𝓛 T.signature.lifetimes T.signature.params T.kept hs
      → (sp : (κs : Lfts T.signature.lifetimes) → Spells (types_at T.signature.params κs)) → ((κs : Lfts T.signature.lifetimes) → Tellss (types_at T.signature.params κs) (Ises (types_at T.signature.params κs)) (sp κs))
      → ((κs : Lfts T.signature.lifetimes) (qs : Shares T.signature.lifetimes) (bounds : AllOutlive T.signature.lifetimes T.signature.outlives κs) (a : Args T.signature κs) (g : (c κs a).ghost)
      → Are (types_at T.signature.params κs) (Ises (types_at T.signature.params κs)) a (valss (types_at T.signature.params κs) (sp κs) a)
      → ent 𝓤 (on_entry 𝓛 T.signature κs qs a (valss (types_at T.signature.params κs) (sp κs) a))
      (WpFn 𝓤 H 𝓣.C 𝓣.Λ F (flat (types_at T.signature.params κs) (valss (types_at T.signature.params κs) (sp κs) a)) ((walk_of 𝓛 T hs c).post ((κs, qs, bounds, a, valss (types_at T.signature.params κs) (sp κs) a), g))))
      → Meets 𝓛 T.signature (WpFn 𝓤 H 𝓣.C 𝓣.Λ F) (closing 𝓛 T c)
  met gs sp tl k =
      walk_Meets 𝓛 T hs gs c (WpFn 𝓤 H 𝓣.C 𝓣.Λ F) (WpFn-mono 𝓤 H 𝓛.laws 𝓣 F)
      (walked 𝓛 T hs c (WpFn 𝓤 H 𝓣.C 𝓣.Λ F) sp tl (λ κs qs bounds a g are. via 𝓤 _ (fst∗ 𝓤 _ ((c κs a).requires g)) (k κs qs bounds a g are)))
