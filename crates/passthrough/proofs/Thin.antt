-- What the walks of the thin functions share. A thin function takes the record by `&mut` and any other parameters; it copies the record out, calls a step that takes the record by value and the same others, stores the step's `next` where its state is another, and returns another field of its answer.
-- The other parameters, whatever they are, are passed on at their own lifetimes, shares and ghost names. So what they own and their tokens are one formula each (`Rest`, `Tokens`) at both functions, and what the step says of their last values is what the thin function says of them.
--     mach, Code           the record's machine value, and its code as a ghost value
--     passed_on            the `Stay` of a parameter that was passed on: what is had of it is what its type says of its last value.        all-on, fit_on, had-on, all-go-on      of a list, with its law
--     opened, closed       the record's borrow is opened, with its cell written out, and closed at a new record
--     ended_of             a thin function's signature, with what is kept: m lifetimes beside the record's, the other parameters ss, and the result's type.        stayed-of      its `Stays`
--     lends                what the step asks, from `Rest` and `Tokens`
--     back                 what the step hands back: its result's relation, the tokens, and the last values with the clause
--     stores-if            a value is stored where a test holds; where it does not, the cell has that value already
--     forks                an arm that returns where a test holds, and what comes after it where it does not
--     exits                the walk's end, from what `closed` leaves
--     thin-meets           the walk is taken to the contract
-- Assumes `Logic`.
use mathlib.Core.Path.{◌≡◌, refl, ap, subst, ◌∙◌}
use mathlib.Core.Bool.{Bool, not}
use Prim.Native.Nat.{ℕ, suc}
use mathlib.Core.List.{[], ◌∷◌, List}
use seplogic.Ra.Ura.{Ura}
use base.Fraction.{full_share}
use lib.Dec.{T as Holds}
use mir.Syntax.{Fn, Place, Opd as Operand, Rv as RValue, Body as Stmt, skip, seq, assign, cond}
use mir.Raw.{raw as raw_ty}
use mir.Val.{Val, vbool, vptr, WT, has_ty}
use base.Logic.{SProp, ent, sep, emp, via, fst∗}
use base.Stored.{Gv}
use base.Fml.{GName, Lft, Share, Fml, fat, ftrue, fsep, flft, fobs, fauth, fbor, fobor}
use prog.Wp.{Env, Spot, after_seq, Calls, Loops, Wp, WpFn, Tables}
use types.Logic.{Logic, sem}
use contract.Monad.{fact}
use contract.Lifetimes.{Lfts, Shares, toks}
use types.Kit.{Goal, Post, any_q, post, runs, nth, del, put, pull, fill, Soaks, Seq, Step, step, Item, mean, ‵, raw, ⋆, ◌⊛◌, some, later, ◌$◌, ◌∵◌, !, qed, move, drop, split, join, pick, fsplit, fjoin, fjoin3, feq_i, frame, await, use0, recast, suffices, done}
use types.Run.{Opd, Rv, Finds, first, branches, assigns_last, store_raw, skips}
use types.SemTy.{Body}
use sound.WpLaws.{WpFn-mono}
use denote.RattleType.{RattleType, Denots, Valss, flat}
use denote.Laws.{Is, shows, Spells, Tellss, Are, Ises, valss}
use denote.Memory.{mem, cell_at}
use denote.Exit.{Kept, left, yes}
use denote.Signature.{Slot, types_at, mut_ref_to, plain}
use denote.Steps.{opens, closes, owned, peeks, heard}
use denote.Struct.Steps.{spelt}
use denote.Struct.Laws as LL
use denote.Triple.Clauses.{Ended, Clauses, at_exit, closing}
use denote.Triple.End.{Kepts, Fins, lasts_of}
use denote.Triple.Entry.{Args, Vals, on_entry}
use denote.Triple.Spec.{Meets}
use denote.Triple.Walked.{Stay, Stays, fits_of, has_of, AllGo, stay_ref, Goes-ref, walk_of, ends_at, walked, walk_Meets}
use Rattle.passthrough.specs.declared.Pending.{Pending}
use Rattle.passthrough.specs.contracts.Pending as T
use Rattle.passthrough.proofs.Pending.TheLaws as T'

abbrev pub mach : Pending → Val
mach h = LL.tuple_val T.the_type T'.the_laws ((T.the_type).to h)

abbrev pub Code : Pending → Gv
Code h = (T.the_row).coded.code h

module _ {n : ℕ} where
  abbrev pub others : List (Slot n) → List (Slot n)
  others [] = []
  others (s ∷ ss) = ss

  abbrev pub passed_on : (s : Slot n) (k : Kept) → Stay s k
  passed_on s k = record { fit = λ κs x f. Unit {0}; has = λ κs x f vs. left ((s.row κs).exit k) x f }

  abbrev pub all_on : (ss : List (Slot n)) (ks : Kepts ss) → Stays ss ks
  all_on [] ks = tt
  all_on (s ∷ ss) ks = (passed_on s ks.0, all_on ss ks.1)

  abbrev pub fit_on : (κs : Lfts n) (ss : List (Slot n)) (ks : Kepts ss) (a : Denots (types_at ss κs)) (ws : Fins κs ss ks a) → fits_of κs ss ks (all_on ss ks) a ws
  fit_on κs [] ks a ws = tt
  fit_on κs (s ∷ ss) ks a ws = (tt, fit_on κs ss ks.1 a.1 ws.1)

  had_on : (κs : Lfts n) (ss : List (Slot n)) (ks : Kepts ss) (a : Denots (types_at ss κs)) (ws : Fins κs ss ks a) (vss : Valss (types_at ss κs)) → lasts_of κs ss ks a ws ≡ has_of κs ss ks (all_on ss ks) a ws vss
  had_on κs [] ks a ws vss = refl
  had_on κs (s ∷ ss) ks a ws vss = ap (fsep (left ((s.row κs).exit ks.0) a.0 ws.0)) (had_on κs ss ks.1 a.1 ws.1 vss.1)

module _ {M : Type 1} {𝓤 : Ura M} (𝓛 : Logic 𝓤) (n : ℕ) where
  pub all_go_on : (ss : List (Slot n)) (ks : Kepts ss) → AllGo 𝓛 n ss ks (all_on ss ks)
  all_go_on [] ks = tt
  all_go_on (s ∷ ss) ks = ((λ κs x f vs fits. 𝓛.laws.⇛_intro _), all_go_on ss ks.1)

module _ {M : Type 1} {𝓤 : Ura M} {𝓛 : Logic 𝓤} {K : Type 0} {Γ : List (Item 𝓤)} {G : Goal 𝓤 𝓛.H} where
  pub opened : K → Soaks G → {κ : Lft} {q : Share} {γ : GName} (h : Pending) (b o : ℕ)
      → (Is T.the_row h (mach h ∷ []) → Seq K 𝓛 (‵ (cell_at full_share (T.the_row).mir (mach h ∷ []) b o) ∷ ‵ (fobor κ q (Body (mem T.the_row) b o γ)) ∷ ‵ (fobs γ (Code h)) ∷ ‵ (fauth γ (Code h)) ∷ Γ) G)
      → Seq K 𝓛 (‵ (fobs γ (Code h)) ∷ ‵ (fbor κ (Body (mem T.the_row) b o γ)) ∷ ‵ (flft κ q) ∷ Γ) G
  opened t z h b o k =
      opens t z T.the_row {h = h} b o (λ vs. spelt t T.the_row (Is T.the_row) (shows 𝓛 T.the_row) (LL.vals T.the_type T'.the_laws) (LL.tells T.the_type T'.the_laws) full_share h vs b o $
      move t (1 ∷ []) $ peeks t T.the_row (Is T.the_row) (shows 𝓛 T.the_row) h (mach h ∷ []) (λ was. drop t $ k was))

  pub closed : K → Soaks G → {κ : Lft} {q : Share} {u v : Gv} {γ : GName} (h : Pending) (b o : ℕ) → Is T.the_row h (mach h ∷ [])
      → Step K 𝓛 (‵ (fobs γ (Code h)) ∷ ‵ (fbor κ (Body (mem T.the_row) b o γ)) ∷ ‵ (flft κ q) ∷ Γ) G (‵ (cell_at full_share (T.the_row).mir (mach h ∷ []) b o) ∷ ‵ (fobor κ q (Body (mem T.the_row) b o γ)) ∷ ‵ (fobs γ u) ∷ ‵ (fauth γ v) ∷ Γ) G
  closed t z h b o is = step (λ s. owned t T.the_row (Is T.the_row) (LL.makes T.the_type T'.the_plain 𝓛) h _ is $ move t (1 ∷ 0 ∷ []) $ closes t z T.the_row h (mach h ∷ []) b o $ s)

  -- the record itself comes first at the step, and nothing is said of it: the others' last values are w
  pub back : K → Soaks G → (R : RattleType) (Tokens : Item 𝓤) (v : Val) (X : Type 0) (L : X → Fml) (Φ : R.Denot → X → Type 0)
      → ((r : R.Denot) (w : X) → Φ r w → Is R r (v ∷ []) → Seq K 𝓛 (Tokens ∷ ‵ (L w) ∷ Γ) G)
      → Seq K 𝓛 (later (some (λ (r : R.Denot). (Tokens ⊛ ‵ (R.own_val r (v ∷ []))) ⊛ some (λ (w : Unit {0} × X). ‵ (fsep ftrue (L w.1)) ⊛ raw (fact 𝓤 (Φ r w.1))))) ∷ Γ) G
  back t z R Tokens v X L Φ next =
      await t z $ pick t (λ r. split t $ move t (1 ∷ []) $ pick t (λ w. split t $ move t (1 ∷ []) $ heard t (Φ r w.1) (λ e. fsplit t $ drop t $
      move t (1 ∷ []) $ split t $ move t (1 ∷ []) $ peeks t R (Is R) (shows 𝓛 R) r (v ∷ []) (λ is. drop t $ next r w.1 e is))))

module _ {M : Type 1} {𝓤 : Ura M} {𝓛 : Logic 𝓤} {K : Type 0} {Γ : List (Item 𝓤)} {E : Env 𝓤 𝓛.H} {C : Calls 𝓤 𝓛.H} {Λ : Loops 𝓤 𝓛.H} {q : Post 𝓤 𝓛.H} where
  open 𝓛 use {H}

  pub stores_if : K → (n : ℕ) {c : Operand} {p : Place} {rv : RValue} {rest : Stmt} {y : Bool} {sp : Spot 𝓤 H} {v₀ v : Val}
      → Opd K 𝓛 Γ E c (vbool y) → Rv K 𝓛 Γ E rv v → Finds K 𝓛 Γ E p sp
      → nth 𝓛 n Γ ≡ ‵ (fat full_share (raw_ty sp.0) sp.1 sp.2 v₀) → Holds (has_ty sp.0 v) × WT v → (Holds (not y) → v₀ ≡ v)
      → Step K 𝓛 (put 𝓛 n (‵ (fat full_share (raw_ty sp.0) sp.1 sp.2 v)) Γ) (runs C Λ E rest q) Γ (runs C Λ E (seq (cond c (assign p rv) skip) rest) q)
  stores_if t n {sp = sp} {v = v} o r f e typed same =
      let cell : Val → Item 𝓤 = λ u. ‵ (fat full_share (raw_ty sp.0) sp.1 sp.2 u) in
      step (λ s. first t $ branches t o (λ z. assigns_last t r f (store_raw t n e typed) $ record { prf = s.prf })
      (λ z. skips t $ record { prf = via 𝓤 _ (subst (λ (j : Item 𝓤). ent 𝓤 (⋆ 𝓛 Γ) (sep 𝓤 (mean 𝓛 j) (⋆ 𝓛 (del 𝓛 n Γ)))) (e ∙ ap cell (same z)) (pull 𝓛 n Γ)) (via 𝓤 _ (fill 𝓛 n (cell v) Γ) s.prf) }))

  pub forks : K → {c : Operand} {a rest : Stmt} {y : Bool} → Opd K 𝓛 Γ E c (vbool y)
      → (Holds y → Seq K 𝓛 Γ (runs C Λ E a (any_q (after_seq 𝓤 H (Wp 𝓤 H C Λ E rest (post 𝓤 H q)) (post 𝓤 H q))))) → (Holds (not y) → Seq K 𝓛 Γ (runs C Λ E rest q)) → Seq K 𝓛 Γ (runs C Λ E (seq (cond c a skip) rest) q)
  forks t o held failed = first t $ branches t o held (λ z. skips t $ record { prf = (failed z).prf })

module _ {M : Type 1} {𝓤 : Ura M} (𝓛 : Logic 𝓤) where
  pub lends : (h : Pending) (Rest : Fml) (Tokens : Item 𝓤) → Is T.the_row h (mach h ∷ []) → ent 𝓤 (⋆ 𝓛 (‵ Rest ∷ Tokens ∷ [])) (sep 𝓤 (sep 𝓤 (mean 𝓛 Tokens) (sem 𝓛 (fsep ((T.the_row).own_val h (mach h ∷ [])) Rest))) (emp 𝓤))
  lends h Rest Tokens was = qed 𝓛 (‵ Rest ∷ Tokens ∷ []) ∵ owned ! T.the_row (Is T.the_row) (LL.makes T.the_type T'.the_plain 𝓛) h _ was $ fjoin ! $ move ! (1 ∷ 0 ∷ []) $ join ! $ frame ! $ done !

module _ (m : ℕ) (ss : List (Slot (suc m))) (ks : Kepts ss) (Out : RattleType) where
  abbrev pub ended_of : Ended
  ended_of = record { signature = record { lifetimes = suc m; outlives = []; params = mut_ref_to (0 ∷ []) tt (plain (λ _. T.the_row)) ∷ ss; result = plain (λ _. Out) }; kept = (yes, ks) }

  abbrev pub stayed_of : Stays ended_of.signature.params ended_of.kept
  stayed_of = (stay_ref (0 ∷ []) tt (plain (λ _. T.the_row)), all_on ss ks)

  module _ {M : Type 1} {𝓤 : Ura M} (𝓛 : Logic 𝓤) (c : Clauses 𝓤 ended_of) where
    open 𝓛 use {H}

    abbrev pub PostAt : (κs : Lfts (suc m)) → Shares (suc m) → (a : Args ended_of.signature κs) → Vals ended_of.signature κs → (c κs a).ghost → Val → SProp 𝓤
    PostAt κs qs a vs g = (walk_of 𝓛 ended_of stayed_of c).post ((κs, qs, tt, a, vs), g)

    pub exits : (κs : Lfts (suc m)) (qs : Shares (suc m)) (a : Args ended_of.signature κs) (vs : Valss (types_at ss κs)) (g : (c κs a).ghost) (h : Pending) (w : Fins κs ss ks a.1) (r : Out.Denot) (v : Val)
        → ent 𝓤 (emp 𝓤) ((c κs a).ensures g r (at_exit ended_of κs a (h, w))) → ent 𝓤 (emp 𝓤) (sem 𝓛 (Out.own_val r (v ∷ [])))
        → ent 𝓤 (⋆ 𝓛 (‵ (fobs a.0.ghost_name (Code h)) ∷ ‵ (fbor κs.0 (Body (mem T.the_row) a.0.ref_ptr.0 a.0.ref_ptr.1 a.0.ghost_name)) ∷ ‵ (flft κs.0 qs.0) ∷ raw (toks 𝓛 m κs.1 qs.1) ∷ ‵ (lasts_of κs ss ks a.1 w) ∷ []))
        (PostAt κs qs a (vptr a.0.ref_ptr.0 a.0.ref_ptr.1 ∷ [], vs) g v)
    exits κs qs a vs g h w r v said made =
        let b : ℕ = a.0.ref_ptr.0 in
        let o : ℕ = a.0.ref_ptr.1 in
        let L : Fml = lasts_of κs ss ks a.1 w in
        let E : SProp 𝓤 = (c κs a).ensures g r (at_exit ended_of κs a (h, w)) in
        qed 𝓛 (‵ (fobs a.0.ghost_name (Code h)) ∷ ‵ (fbor κs.0 (Body (mem T.the_row) b o a.0.ghost_name)) ∷ ‵ (flft κs.0 qs.0) ∷ raw (toks 𝓛 m κs.1 qs.1) ∷ ‵ L ∷ []) ∵
        suffices ! _ (ends_at 𝓛 ended_of stayed_of c ((κs, qs, tt, a, (vptr b o ∷ [], vs)), g) v r (h, w) (tt, fit_on κs ss ks a.1 w)) $
        feq_i ! (List Val) (vptr b o ∷ []) (vptr b o ∷ []) refl $ fjoin3 ! $ move ! (3 ∷ []) $ recast 𝓛 (‵ (has_of κs ss ks (all_on ss ks) a.1 w vs)) (ap (sem 𝓛) (had_on κs ss ks a.1 w vs)) $ move ! (1 ∷ 0 ∷ []) $ fjoin ! $
        -- [what is had of the parameters; the record's token; the others']
        use0 𝓛 (‵ (Out.own_val r (v ∷ []))) made $ move ! (1 ∷ 0 ∷ []) $ join ! $ move ! (1 ∷ 2 ∷ 0 ∷ []) $ join ! $ move ! (0 ∷ 1 ∷ []) $ join ! $ use0 𝓛 (raw E) said $ move ! (1 ∷ 0 ∷ []) $ done !

    pub thin_meets : (fn : Fn) (𝓣 : Tables 𝓤 H) (sp : (κs : Lfts (suc m)) → Spells (types_at ended_of.signature.params κs)) → ((κs : Lfts (suc m)) → Tellss (types_at ended_of.signature.params κs) (Ises (types_at ended_of.signature.params κs)) (sp κs))
        → ((κs : Lfts (suc m)) (qs : Shares (suc m)) (a : Args ended_of.signature κs) (g : (c κs a).ghost) → Are (types_at ended_of.signature.params κs) (Ises (types_at ended_of.signature.params κs)) a (valss (types_at ended_of.signature.params κs) (sp κs) a)
        → ent 𝓤 (on_entry 𝓛 ended_of.signature κs qs a (valss (types_at ended_of.signature.params κs) (sp κs) a))
        (WpFn 𝓤 H 𝓣.C 𝓣.Λ fn (flat (types_at ended_of.signature.params κs) (valss (types_at ended_of.signature.params κs) (sp κs) a)) (PostAt κs qs a (valss (types_at ended_of.signature.params κs) (sp κs) a) g)))
        → Meets 𝓛 ended_of.signature (WpFn 𝓤 H 𝓣.C 𝓣.Λ fn) (closing 𝓛 ended_of c)
    thin_meets fn 𝓣 sp tl walk =
        walk_Meets 𝓛 ended_of stayed_of (Goes-ref 𝓛 (suc m) 0 tt (plain (λ _. T.the_row)), all_go_on 𝓛 (suc m) ss ks) c (WpFn 𝓤 H 𝓣.C 𝓣.Λ fn) (WpFn-mono 𝓤 H 𝓛.laws 𝓣 fn)
        (walked 𝓛 ended_of stayed_of c (WpFn 𝓤 H 𝓣.C 𝓣.Λ fn) sp tl (λ κs qs bounds a g are. via 𝓤 _ (fst∗ 𝓤 _ ((c κs a).requires g)) (walk κs qs a g are)))
