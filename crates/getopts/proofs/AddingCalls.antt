-- For proofs by hand of `opt` and similar calls: what their clause `unchanged` says after each
-- result, and one proof for all calls with three texts (`passes_3`) and with four (`passes_4`) that
-- only call `opt`.
pub use Rattle.std.proofs.Common.{◌≡◌, ℕ, zero, suc, List, [], ◌∷◌, ◌^◌, Bool, true, refl, ap, lit<, MutBor, inl, inr}
pub use Rattle.std.proofs.raw_atomic.Walks.{proved}
pub use base.Fml.{Fml, Lft, ftrue, flft, fres, fsep, feq, fauth, fex}
pub use base.Fraction.{full_share}
pub use base.Logic.{id⊢, ent, SProp, emp, wand, sep}
pub use contract.Lifetimes.{Lfts, Shares}
pub use contract.Monad.{fact, fact_i}
pub use contract.Running.{tables, Running, MachineTables}
pub use denote.Builtin.{unit}
pub use denote.Enum.Declared.{tag_of}
pub use denote.Exit.{yes, no}
pub use denote.Follow.{follows, follows_by, such_by}
pub use denote.Laws.{Is, Ises, valss, all_Typed, shows, Spells, Tellss, Lawfuls}
pub use denote.Opens.{hide}
pub use denote.Param.{layout}
pub use denote.Param.Laws.{of_field, row_shared, field_told}
pub use denote.Param.Shared.{mut_ref_shared, copy_shared}
pub use denote.RattleType.{RattleType, owns}
pub use denote.Ref.{Bor, MutRef, NamedLft, mut_vals, mut_Lawful, mut_Tells}
pub use denote.Shadow.{makes_shadow}
pub use denote.Signature.{plain, types_at, AllWithin}
pub use denote.Slice.{slice_val}
pub use denote.Steps.{nothing, owned, heard, peeks, only}
pub use denote.Struct.Field.{mut_ref_field, unit-field}
pub use denote.Struct.Laws.{FLaws, mut_ref_laws, unit-laws, unit-copy}
pub use denote.Text.{StrRefOf, Str, str-field, str-laws}
pub use denote.Triple.Call.{calls_at}
pub use denote.Triple.Clauses.{lasts, Lasts, Clauses, closing}
pub use denote.Triple.Entry.{alive, Args, Vals}
pub use denote.Triple.Spec.{triple_of, Meets}
pub use denote.Triple.Statement.{Contract}
pub use denote.Triple.Table.{framed}
pub use denote.Triple.Walked.{AllGo, Stays, walk_of, stay_dropped, Goes, Goes-dropped, Goes-spent_ref, ends_at}
pub use lib.Dec.{T, lt→ltb}
pub use lib.Utf8.{encodes, scalars}
pub use mathlib.Core.List.{map}
pub use mathlib.Core.Logic.{◌⊎◌}
pub use mathlib.Core.Option.{some as is_named, none as no_name}
pub use mathlib.Core.Path.{subst}
pub use mir.Syntax.{Body, named, Fn, Callee, Local, seq, assign, place, aggregate, int, w8, w64, copy, call, return, addr_of, deref, local, value_local, erased, imm, ty_ref, ty_array, ty_int, c_ints, lend_static}
pub use mir.Val.{Val, WT, has_ty, vunit, vptr, vstruct, vcons, vnil}
pub use prog.Model.{Model}
pub use prog.Wp.{Closed}
pub use seplogic.Ra.Ura.{Ura}
pub use types.ByLocal.{alloc_all, pass_all, free_all, look_at, get, through, sets, lands_as, env, get_tag, get_in, sets_last}
pub use types.Kit.{‵, raw, ◌⊛◌, some, later, at_ret, ◌$◌, ◌∵◌, !, qed, done, move, keep, drop, use0, use1, use2, use3, split, join, group, fsplit, fsplit3, fjoin, fpack, feq_i, flt_i, pick, await, rewrite, suffices, any_q, each, assume}
pub use types.Logic.{Logic, sem}
pub use types.Match.{live, vrt, in_variant}
pub use types.Part.{agg, whole}
pub use types.Run.{enter, of_opd, lit, addr, stop, fld, no_more, and_then, first, exec, returns, statics, switches_on}
pub use types.Tokens.{lft_new}
pub use Rattle.std.proofs.result.Result.TheLaws.{the_row_laws as result_laws, the_laws as result_fields}
pub use Rattle.std.proofs.alloc.AllocError.TheLaws.{the_row_laws as error_laws, the_told as error_told}
pub use Rattle.std.specs.Prelude.{Result, Ok, Err, OnOk, OnErr, IfOk}
pub use Rattle.std.specs.declared.alloc.AllocError.{AllocError}
pub use Rattle.getopts.specs.Borrows.{UnchangedIfErr}
pub use Rattle.getopts.specs.Names.{AreLawful}
pub use Rattle.getopts.specs.Options.{Declared, group_of, with_group}
pub use Rattle.getopts.specs.contracts.options.Options.{the_row as Options}
pub use Rattle.getopts.proofs.kinds.HasArg.TheLaws.{the_laws as has_arg_laws, the_row_laws as has_arg_row, the_plain as has_arg_plain}
pub use Rattle.getopts.proofs.kinds.Occur.TheLaws.{the_laws as occur_laws, the_row_laws as occur_row, the_plain as occur_plain}
pub use Rattle.getopts.proofs.options.Options.TheLaws.{the_row_laws as options_laws}
pub use Rattle.getopts.specs.declared.kinds.HasArg.{HasArg}
pub use Rattle.getopts.specs.declared.kinds.HasArg.TheVariants.{Yes, No, Maybe}
pub use Rattle.getopts.specs.declared.kinds.Occur.{Occur}
pub use Rattle.getopts.specs.declared.kinds.Occur.TheVariants.{Req, Optional, Multi}
pub use denote.Enum.Laws as enums
pub use Rattle.std.specs.contracts.result.Result as Res
pub use Rattle.std.specs.contracts.alloc.AllocError as AE
pub use Rattle.getopts.specs.contracts.kinds.HasArg as has_arg
pub use Rattle.getopts.specs.contracts.kinds.Occur as occurs
use Rattle.std.proofs.Common.{Option, Some, None, rules}
use Rattle.getopts.specs.contracts.options.Options.opt as g
use Rattle.getopts.specs.contracts.options.Options.optflag as three
use Rattle.getopts.specs.contracts.options.Options.optopt as four

-- the result of a call that returns the options, and that of a call that doesn't
abbrev pub Returned : Lft → RattleType
Returned κ = Res.the_row (MutRef (named 0) κ Options) AE.the_row

abbrev pub Added : RattleType
Added = Res.the_row unit AE.the_row

abbrev pub AddedResult : Type 0
AddedResult = Result (Unit {0}) AllocError

-- the two values of the result of `add_group`
pub added_values : (u : AddedResult) (v : Val) → Is Added u (v ∷ [])
    → ((v ≡ live 0 (vcons vunit vnil)) × (u ≡ Ok (record {})))
    ⊎ ((v ≡ live 1 (vcons (vstruct vnil) vnil)) × (u ≡ Err (record {})))
added_values u v is = search rules

-- a value that is a result has its type
pub returned_typed : {M : Type 1} {𝓤 : Ura M} (𝓛 : Logic 𝓤) (κ : Lft) (r : (Returned κ).Denot) (v : Val)
    → Is (Returned κ) r (v ∷ []) → T (has_ty (layout (Returned κ)) v) × WT v
returned_typed 𝓛 κ r v is = search (rules, result_laws, options_laws, error_laws)

module _ {M : Type 1} {𝓤 : Ura M} (𝓛 : Logic 𝓤) (options : MutBor Declared) where
  open 𝓛 use {A}

  abbrev name : ℕ
  name = options.ghost_name

  abbrev code : Declared → base.Stored.Gv
  code = Options.coded.code

  -- the options follow themselves
  itself : ent 𝓤 (emp 𝓤) (sem 𝓛 (follows Options Options name name (λ last. last)))
  itself =
      let From : Declared → Declared → Fml = λ z w. fsep (feq Declared z w) (fauth name (code w)) in
      let said = qed 𝓛 [] ∵ each ! (λ (w : Declared). wand 𝓤 (A.res name (code w)) (A.res name (code w)))
      (λ w. assume ! (‵ (fres name (code w))) $ done !) in
      let back = qed 𝓛 [] ∵ each ! (λ (z : Declared). wand 𝓤 (A.auth name (code z)) (sem 𝓛 (fex Declared (From z))))
      (λ z. assume ! (‵ (fauth name (code z))) $ feq_i ! Declared z z refl $ fjoin ! $ fpack ! Declared (From z) z $ done !) in
      record { apply = λ a p. (said.apply a p, back.apply a p) }

  -- the result has the options' own name
  pub unchanged_ok : (now : Declared) → ent 𝓤 (emp 𝓤) (sem 𝓛 (UnchangedIfErr {E = AllocError} options (Ok (record options { now = now }))))
  unfolding such_by follows_by
  unchanged_ok now =
      qed 𝓛 [] ∵ use0 𝓛 (‵ (follows Options Options name name (λ last. last))) itself $
      fpack ! ((t : (Declared → Declared) × Declared) × ((w : Declared) → t.0 w ≡ w) × Unit {0})
      (λ t. follows_by Declared Declared code code name (is_named name) t.0.0 t.0.1)
      (((λ last. last), options.now), (λ w. refl), tt) $ done !

  -- the options have ended, as they were
  pub unchanged_err : (e : AllocError) → ent 𝓤 (A.res name (code options.now)) (sem 𝓛 (UnchangedIfErr options (Err e)))
  unfolding such_by follows_by
  unchanged_err e =
      qed 𝓛 (‵ (fres name (code options.now)) ∷ []) ∵
      fpack ! ((t : (Declared → Declared) × Declared) × ((w : Declared) → Unit {0}) × (t.1 ≡ options.now))
      (λ t. follows_by Declared Declared code code name no_name t.0.0 t.0.1)
      (((λ last. last), options.now), (λ w. tt), refl) $ done !

-- a text's machine value, and that there is no other
abbrev pub text_laws : (i : ℕ) (κ : Lft) → FLaws (str-field (record { mir = named i; lft = κ }))
text_laws i κ = str-laws (record { mir = named i; lft = κ })

-- the empty text, which owns nothing
pub empty_text : {M : Type 1} {𝓤 : Ura M} (𝓛 : Logic 𝓤) (i : ℕ) (κ : Lft) (b : ℕ)
    → ent 𝓤 (emp 𝓤) (sem 𝓛 ((Str (named i) κ).own_val (record { ref_ptr = (b, 0); now = [] }) (slice_val (b, 0) 0 ∷ [])))
empty_text 𝓛 i κ b =
    qed 𝓛 [] ∵ feq_i ! (List ℕ) (encodes []) [] refl $ feq_i ! Bool (scalars []) true refl $ fjoin ! $
    fpack ! (List ℕ) (λ cs. fsep (feq Bool (scalars cs) true) (feq (List ℕ) (encodes cs) [])) [] $
    nothing ! $ hide ! $ flt_i ! 0 (2 ^ 63) (lit< tt) $ flt_i ! 0 (2 ^ 64) (lit< tt) $ fjoin ! $
    feq_i ! (List Val) (slice_val (b, 0) 0 ∷ []) (slice_val (b, 0) 0 ∷ []) refl $ fjoin ! $ fjoin ! $ fjoin ! $ done !

-- The first parameters of each call are the options and three texts. Rs are the types of the
-- others. `spells` are the machine values of all, `tells` says that there are no others, and
-- `lawfuls` that they have their types.
module _ (κ₀ κ₁ κ₂ κ₃ : Lft) (Rs : List RattleType) where
  abbrev Params : List RattleType
  Params = MutRef (named 0) κ₀ Options ∷ Str (named 1) κ₁ ∷ Str (named 2) κ₂ ∷ Str (named 3) κ₃ ∷ Rs

  abbrev pub spells : Spells Rs → Spells Params
  spells others = (mut_vals, ((λ s. (text_laws 1 κ₁).val s ∷ []), ((λ s. (text_laws 2 κ₂).val s ∷ []), ((λ s. (text_laws 3 κ₃).val s ∷ []), others))))

  abbrev pub tells : (sp : Spells Rs) → Tellss Rs (Ises Rs) sp → Tellss Params (Ises Params) (spells sp)
  tells sp others = (mut_Tells (named 0) κ₀ Options, ((text_laws 1 κ₁).tells, ((text_laws 2 κ₂).tells, ((text_laws 3 κ₃).tells, others))))

module _ {M : Type 1} {𝓤 : Ura M} (𝓛 : Logic 𝓤) (κ₀ κ₁ κ₂ κ₃ : Lft) (Rs : List RattleType) where
  abbrev pub lawfuls : Lawfuls 𝓛 Rs → Lawfuls 𝓛 (Params κ₀ κ₁ κ₂ κ₃ Rs)
  lawfuls others = (mut_Lawful 𝓛 (named 0) κ₀ Options, ((text_laws 1 κ₁).lawful 𝓛, ((text_laws 2 κ₂).lawful 𝓛, ((text_laws 3 κ₃).lawful 𝓛, others))))

-- Six calls only call `opt`, with a kind and an occurrence of their own, whose tags their code
-- writes. The proofs read both from the code, so a wrong one contradicts the clause `added`. A tag
-- that isn't named here gives no kind and no occurrence, but a value of another type.
abbrev Named : {A : Type 0} → Option A → Type 0
Named {A} (Some value) = A
Named None = Unit {0}

abbrev by_name : {A : Type 0} (read : Option A) → Named read
by_name (Some value) = value
by_name None = tt

abbrev kind_read : Body → Option HasArg
kind_read (assign p (aggregate (int w zero ∷ []))) = Some Yes
kind_read (assign p (aggregate (int w (suc zero) ∷ []))) = Some No
kind_read (assign p (aggregate (int w (suc (suc zero)) ∷ []))) = Some Maybe
kind_read _ = None

abbrev pub kind_in : (code : Body) → Named (kind_read code)
kind_in code = by_name (kind_read code)

abbrev occur_read : Body → Option Occur
occur_read (assign p (aggregate (int w zero ∷ []))) = Some Req
occur_read (assign p (aggregate (int w (suc zero) ∷ []))) = Some Optional
occur_read (assign p (aggregate (int w (suc (suc zero)) ∷ []))) = Some Multi
occur_read _ = None

abbrev pub occur_in : (code : Body) → Named (occur_read code)
occur_in code = by_name (occur_read code)

abbrev kind_val : HasArg → Val
kind_val k = live (tag_of has_arg.the_type k) vnil

kind_is : (k : HasArg) → Is has_arg.the_row k (kind_val k ∷ [])
kind_is k = search rules

abbrev occur_val : Occur → Val
occur_val o = live (tag_of occurs.the_type o) vnil

occur_is : (o : Occur) → Is occurs.the_row o (occur_val o ∷ [])
occur_is o = search rules

-- The code of these calls reborrows the options, borrows the empty text if there is no hint, writes
-- the two values, and calls `opt`.
abbrev value : RattleType → Local
value R = local (layout R) value_local

abbrev writes : ℕ → ℕ → Body
writes i tag = assign (place i []) (aggregate (int w8 tag ∷ []))

abbrev lends : ℕ → Body
lends i = assign (place i []) (addr_of (place 1 (deref (layout Options) ∷ [])))

abbrev calls_opt : List ℕ → Body
calls_opt is = seq (call g.Key.name (map (λ i. copy (place i [])) is) (place 0 [])) return

abbrev code_of : ℕ → List Local → Body → Fn
code_of n others body = record {
  lifetimes = n;
  outlives = [];
  ty_params = [];
  givens = 0;
  params = n;
  locals = value (Returned []) ∷ value (MutRef (named 0) [] Options) ∷ value (Str (named 1) []) ∷ value (Str (named 2) []) ∷ value (Str (named 3) []) ∷ others;
  body = body;
}

abbrev code_3 : HasArg → Occur → Fn
code_3 kind occur = code_of 4 (value (MutRef erased [] Options) ∷ local (ty_ref erased imm (ty_array (ty_int w8) 0)) value_local
    ∷ local (ty_ref erased imm (ty_int w8)) value_local ∷ value (Str erased []) ∷ value has_arg.the_row ∷ value occurs.the_row ∷ [])
    (seq (lends 5) (seq (lend_static (place 6 []) (ty_array (ty_int w8) 0) (c_ints w8 [])) (seq (assign (place 7 []) (addr_of (place 6 (deref (ty_int w8) ∷ []))))
    (seq (assign (place 8 []) (aggregate (copy (place 7 []) ∷ int w64 0 ∷ []))) (seq (writes 9 (tag_of has_arg.the_type kind)) (seq (writes 10 (tag_of occurs.the_type occur))
    (calls_opt (5 ∷ 2 ∷ 3 ∷ 4 ∷ 8 ∷ 9 ∷ 10 ∷ []))))))))

abbrev code_4 : HasArg → Occur → Fn
code_4 kind occur = code_of 5 (value (Str (named 4) []) ∷ value (MutRef erased [] Options) ∷ value has_arg.the_row ∷ value occurs.the_row ∷ [])
    (seq (lends 6) (seq (writes 7 (tag_of has_arg.the_type kind)) (seq (writes 8 (tag_of occurs.the_type occur)) (calls_opt (6 ∷ 2 ∷ 3 ∷ 4 ∷ 5 ∷ 7 ∷ 8 ∷ [])))))

module _ {M : Type 1} {𝓤 : Ura M} (𝓛 : Logic 𝓤) (𝓜 : Model 𝓤 𝓛.H) (𝓡 : Running 𝓤 𝓛.H 𝓜)
    (met : Meets 𝓛 g.signature (𝓡.run (𝓡.env g.Key.name)) (g.spec 𝓛 𝓜.mem 𝓡.returns)) (kind : HasArg) (occur : Occur) where
  abbrev 𝓣 : MachineTables 𝓤 𝓛.H 𝓜
  𝓣 = tables 𝓤 𝓛.H 𝓜 𝓡 𝓡.env

  abbrev G : Contract 𝓤
  G = triple_of 𝓛 g.signature (g.spec 𝓛 𝓜.mem 𝓡.returns)

  abbrev ReturnedResult : Type 0
  ReturnedResult = Result (MutBor Declared) AllocError

  -- the clause `added` of `opt`, for these two values
  abbrev Adds : Declared → List ℕ → List ℕ → List ℕ → List ℕ → ReturnedResult → Type 0
  Adds old short long description hint r = IfOk r (λ options. options.now ≡ with_group old (group_of short long description hint kind occur))

  -- what a call ensures if Claim is its clause `added`
  abbrev says_of : MutBor Declared → ReturnedResult → Type 0 → SProp 𝓤
  says_of options r Claim = sep 𝓤 (sem 𝓛 (UnchangedIfErr options r)) (sep 𝓤 (fact 𝓤 Claim) (fact 𝓤 (IfOk r (λ after. after.ghost_name ≡ options.ghost_name))))

  says_more : (options : MutBor Declared) (r : ReturnedResult) {A B : Type 0} → (A → B) → ent 𝓤 (says_of options r A) (says_of options r B)
  says_more options r {A} {B} f = qed 𝓛 (‵ (UnchangedIfErr options r) ∷ raw (fact 𝓤 A) ∷ raw (fact 𝓤 (IfOk r (λ after. after.ghost_name ≡ options.ghost_name))) ∷ []) ∵
      move ! (1 ∷ []) $ heard ! _ (λ a. use0 𝓛 (raw (fact 𝓤 B)) (fact_i 𝓤 B (emp 𝓤) (f a)) $ move ! (1 ∷ 0 ∷ 2 ∷ []) $ done !)

  kind_typed : T (has_ty (layout has_arg.the_row) (kind_val kind)) × WT (kind_val kind)
  kind_typed = ((has_arg_row.lawful 𝓛).typed kind (kind_val kind ∷ []) (kind_is kind)).0

  occur_typed : T (has_ty (layout occurs.the_row) (occur_val occur)) × WT (occur_val occur)
  occur_typed = ((occur_row.lawful 𝓛).typed occur (occur_val occur ∷ []) (occur_is occur)).0

  -- calls with three texts, which pass an empty hint
  module _ (Claim : (κs : Lfts 4) → Args three.signature κs → ReturnedResult → Type 0) where
    abbrev clauses_3 : Clauses 𝓤 three.ended
    clauses_3 κs a = record {
      ghost = Unit {0};
      requires = λ _. fact 𝓤 (AreLawful a.1.0.now a.1.1.0.now);
      ensures = λ _ r _. says_of a.0 r (Claim κs a r);
    }

    pub passes_3 : (c : Clauses 𝓤 three.ended) → c ≡ clauses_3
        → ((κs : Lfts 4) (a : Args three.signature κs) (r : ReturnedResult) → Adds a.0.now a.1.0.now a.1.1.0.now a.1.1.1.0.now [] r → Claim κs a r)
        → (key : Callee) → Closed 𝓤 𝓛.H 𝓣.C 𝓣.Λ key (code_3 kind occur) → Meets 𝓛 three.signature (𝓣.C key) (closing 𝓛 three.ended clauses_3)
    passes_3 c is added key closed =
        let stayed : Stays three.signature.params three.ended.kept = (stay_dropped _ no, (stay_dropped _ yes, (stay_dropped _ yes, (stay_dropped _ yes, tt)))) in
        let text = λ (i : ℕ) (w : AllWithin 4 (i ∷ [])). Goes-dropped 𝓛 4 (StrRefOf (i ∷ []) w) yes (λ κs x w. refl) in
        let goes : AllGo 𝓛 4 three.signature.params three.ended.kept stayed = (Goes-spent_ref 𝓛 4 (0 ∷ []) tt (plain (λ _. Options)), (text 1 tt, (text 2 tt, (text 3 tt, tt)))) in
        proved 𝓛 three.ended stayed clauses_3 𝓜 𝓡 goes key (code_3 kind occur) closed (λ κs. spells κs.0 κs.1.0 κs.1.1.0 κs.1.1.1.0 [] tt)
        (λ κs. tells κs.0 κs.1.0 κs.1.1.0 κs.1.1.1.0 [] tt tt) (λ κs qs bounds a n are.
        let Rs : List RattleType = types_at three.signature.params κs in let vss = valss Rs (spells κs.0 κs.1.0 κs.1.1.0 κs.1.1.1.0 [] tt) a in let Out : RattleType = Returned κs.0 in
        let y : (walk_of 𝓛 three.ended stayed clauses_3).Ghost = ((κs, qs, bounds, a, vss), tt) in
        let t₀ : Fml = flft κs.0 qs.0 in let t₁ : Fml = flft κs.1.0 qs.1.0 in let t₂ : Fml = flft κs.1.1.0 qs.1.1.0 in let t₃ : Fml = flft κs.1.1.1.0 qs.1.1.1.0 in
        let Lawful : Type 0 = AreLawful a.1.0.now a.1.1.0.now in
        qed 𝓛 (((‵ t₀ ⊛ ‵ t₁ ⊛ ‵ t₂ ⊛ ‵ t₃ ⊛ ‵ ftrue) ⊛ ‵ (owns Rs a vss)) ∷ raw (fact 𝓤 Lawful) ∷ []) ∵ split ! $ move ! (2 ∷ []) $ heard ! _ (λ lawful.
        enter ! _ _ _ _ _ $ alloc_all ! (λ l. pass_all ! refl (all_Typed 𝓛 Rs (lawfuls 𝓛 κs.0 κs.1.0 κs.1.1.0 κs.1.1.1.0 [] tt) a vss are) $
        sets ! (addr ! (through ! refl (stop !))) refl (tt, tt) $
        -- the empty text lies at b
        statics ! (λ b. (tt, tt)) (λ b s. drop ! $ lands_as ! refl refl (tt, tt) $ sets ! (addr ! (through ! refl (stop !))) refl (tt, tt) $
        sets ! (agg ! (and_then ! (get ! refl) (and_then ! (lit ! tt) (no_more !)))) refl (tt, (tt, (record { fits = lit< tt }, tt))) $
        sets ! (agg ! (and_then ! (lit ! (lt→ltb _ _ kind_typed.1.0.fits)) (no_more !))) refl kind_typed $
        sets ! (agg ! (and_then ! (lit ! (lt→ltb _ _ occur_typed.1.0.fits)) (no_more !))) refl occur_typed $ lft_new ! tt (λ β.
        let κs' : Lfts 5 = (κs.0, (κs.1.0, (κs.1.1.0, (κs.1.1.1.0, (β ∷ [], tt))))) in let hint : Bor (List ℕ) = record { ref_ptr = (b, 0); now = [] } in
        let qs' : Shares 5 = (qs.0, (qs.1.0, (qs.1.1.0, (qs.1.1.1.0, (full_share, tt))))) in let a' : Args g.signature κs' = (a.0, (a.1.0, (a.1.1.0, (a.1.1.1.0, (hint, (kind, (occur, tt))))))) in
        let vss' : Vals g.signature κs' = (vss.0, (vss.1.0, (vss.1.1.0, (vss.1.1.1.0, (slice_val (b, 0) 0 ∷ [], (kind_val kind ∷ [], (occur_val occur ∷ [], tt))))))) in
        let z : G.Ghost = ((κs', qs', tt, a', vss'), tt) in
        -- [the token of β; the tokens; the parameters]
        move ! (1 ∷ []) $ split ! $ move ! (1 ∷ []) $ split ! $ move ! (1 ∷ []) $ split ! $ move ! (1 ∷ []) $ split ! $ move ! (4 ∷ 3 ∷ 2 ∷ 0 ∷ 5 ∷ 1 ∷ []) $ group ! 6 $
        move ! (1 ∷ []) $ fsplit ! $ move ! (1 ∷ []) $ fsplit ! $ move ! (1 ∷ []) $ fsplit ! $ move ! (1 ∷ []) $ fsplit ! $
        -- [the description; nothing; the long name; the short name; the options; the tokens]
        use0 𝓛 (‵ ((Str (named 4) (β ∷ [])).own_val hint (slice_val (b, 0) 0 ∷ []))) (empty_text 𝓛 4 (β ∷ []) b) $
        owned ! occurs.the_row (Is occurs.the_row) (enums.makes occurs.the_type occur_plain 𝓛) occur (occur_val occur ∷ []) (occur_is occur) $
        owned ! has_arg.the_row (Is has_arg.the_row) (enums.makes has_arg.the_type has_arg_plain 𝓛) kind (kind_val kind ∷ []) (kind_is kind) $
        move ! (7 ∷ 6 ∷ 5 ∷ 3 ∷ 2 ∷ 0 ∷ 1 ∷ 4 ∷ []) $ group ! 8 $ move ! (1 ∷ 0 ∷ []) $ join ! $
        use0 𝓛 (raw (fact 𝓤 Lawful)) (fact_i 𝓤 Lawful (emp 𝓤) lawful) $ move ! (1 ∷ 0 ∷ []) $ use2 𝓛 (raw (G.pre z)) (id⊢ 𝓤 _) $
        calls_at ! (framed 𝓤 𝓛.H 𝓜 𝓣) G met z
        (and_then ! (get ! refl) (and_then ! (get ! refl) (and_then ! (get ! refl) (and_then ! (get ! refl) (and_then ! (get ! refl) (and_then ! (get ! refl) (and_then ! (get ! refl) (no_more !)))))))) (λ v.
        use1 𝓛 (later (some (λ (r : ReturnedResult). ((‵ t₀ ⊛ ‵ t₁ ⊛ ‵ t₂ ⊛ ‵ t₃ ⊛ ‵ (flft (β ∷ []) full_share) ⊛ ‵ ftrue) ⊛ ‵ (Out.own_val r (v ∷ []))) ⊛
        some (λ (ws : Lasts g.ended κs' z.0.3). ‵ (lasts g.ended κs' z.0.3 ws) ⊛ raw (says_of a.0 r (Adds a.0.now a.1.0.now a.1.1.0.now a.1.1.1.0.now [] r)))))) (id⊢ 𝓤 _) $
        await ! tt $ pick ! (λ r. split ! $ split ! $ split ! $ move ! (1 ∷ []) $ split ! $ move ! (1 ∷ []) $ split ! $ move ! (1 ∷ []) $ split ! $
        -- [t₃; the token of β; t₂; t₁; t₀; the result; the ensures]
        move ! (5 ∷ []) $ peeks ! Out (Is Out) (shows 𝓛 Out) r (v ∷ []) (λ is.
        lands_as ! refl refl (returned_typed 𝓛 κs.0 r v is) $ move ! (6 ∷ []) $ pick ! (λ ws. split ! $ drop ! $
        use1 𝓛 (raw (says_of a.0 r (Claim κs a r))) (says_more a.0 r (added κs a r)) $
        returns ! (look_at ! 0 refl) $ free_all ! refl $
        suffices ! _ (ends_at 𝓛 three.ended stayed clauses_3 y v r (tt, (tt, (tt, (tt, tt)))) (tt, (tt, (tt, (tt, tt))))) $
        keep ! (6 ∷ 5 ∷ 4 ∷ 2 ∷ 1 ∷ 0 ∷ []) $ nothing ! $ move ! (1 ∷ 2 ∷ 3 ∷ 4 ∷ 0 ∷ []) $ group ! 5 $
        nothing ! $ nothing ! $ nothing ! $ nothing ! $ nothing ! $ group ! 5 $ move ! (1 ∷ 0 ∷ []) $ group ! 3 $ done !)))))))))

  -- calls with four texts
  module _ (Claim : (κs : Lfts 5) → Args four.signature κs → ReturnedResult → Type 0) where
    abbrev clauses_4 : Clauses 𝓤 four.ended
    clauses_4 κs a = record {
      ghost = Unit {0};
      requires = λ _. fact 𝓤 (AreLawful a.1.0.now a.1.1.0.now);
      ensures = λ _ r _. says_of a.0 r (Claim κs a r);
    }

    pub passes_4 : (c : Clauses 𝓤 four.ended) → c ≡ clauses_4
        → ((κs : Lfts 5) (a : Args four.signature κs) (r : ReturnedResult) → Adds a.0.now a.1.0.now a.1.1.0.now a.1.1.1.0.now a.1.1.1.1.0.now r → Claim κs a r)
        → (key : Callee) → Closed 𝓤 𝓛.H 𝓣.C 𝓣.Λ key (code_4 kind occur) → Meets 𝓛 four.signature (𝓣.C key) (closing 𝓛 four.ended clauses_4)
    passes_4 c is added key closed =
        let stayed : Stays four.signature.params four.ended.kept = (stay_dropped _ no, (stay_dropped _ yes, (stay_dropped _ yes, (stay_dropped _ yes, (stay_dropped _ yes, tt))))) in
        let text = λ (i : ℕ) (w : AllWithin 5 (i ∷ [])). Goes-dropped 𝓛 5 (StrRefOf (i ∷ []) w) yes (λ κs x w. refl) in
        let goes : AllGo 𝓛 5 four.signature.params four.ended.kept stayed = (Goes-spent_ref 𝓛 5 (0 ∷ []) tt (plain (λ _. Options)), (text 1 tt, (text 2 tt, (text 3 tt, (text 4 tt, tt))))) in
        let hint = λ (κs : Lfts 5). text_laws 4 κs.1.1.1.1.0 in let Hint = λ (κs : Lfts 5). Str (named 4) κs.1.1.1.1.0 ∷ [] in
        let sp : (κs : Lfts 5) → Spells (types_at four.signature.params κs) = λ κs. spells κs.0 κs.1.0 κs.1.1.0 κs.1.1.1.0 (Hint κs) ((λ s. (hint κs).val s ∷ []), tt) in
        proved 𝓛 four.ended stayed clauses_4 𝓜 𝓡 goes key (code_4 kind occur) closed sp
        (λ κs. tells κs.0 κs.1.0 κs.1.1.0 κs.1.1.1.0 (Hint κs) ((λ s. (hint κs).val s ∷ []), tt) ((hint κs).tells, tt)) (λ κs qs bounds a n are.
        let Rs : List RattleType = types_at four.signature.params κs in let vss = valss Rs (sp κs) a in let Out : RattleType = Returned κs.0 in
        let y : (walk_of 𝓛 four.ended stayed clauses_4).Ghost = ((κs, qs, bounds, a, vss), tt) in
        let a' : Args g.signature κs = (a.0, (a.1.0, (a.1.1.0, (a.1.1.1.0, (a.1.1.1.1.0, (kind, (occur, tt))))))) in
        let vss' : Vals g.signature κs = (vss.0, (vss.1.0, (vss.1.1.0, (vss.1.1.1.0, (vss.1.1.1.1.0, (kind_val kind ∷ [], (occur_val occur ∷ [], tt))))))) in
        let z : G.Ghost = ((κs, qs, bounds, a', vss'), tt) in
        let Lawful : Type 0 = AreLawful a.1.0.now a.1.1.0.now in
        qed 𝓛 ((raw (alive 𝓛 four.signature κs qs) ⊛ ‵ (owns Rs a vss)) ∷ raw (fact 𝓤 Lawful) ∷ []) ∵ split ! $ move ! (2 ∷ []) $ heard ! _ (λ lawful.
        move ! (1 ∷ []) $ fsplit ! $ move ! (1 ∷ []) $ fsplit ! $ move ! (1 ∷ []) $ fsplit ! $ move ! (1 ∷ []) $ fsplit ! $ move ! (1 ∷ []) $ fsplit ! $
        -- [the hint; nothing; the description; the long name; the short name; the options; the
        -- tokens]
        owned ! occurs.the_row (Is occurs.the_row) (enums.makes occurs.the_type occur_plain 𝓛) occur (occur_val occur ∷ []) (occur_is occur) $
        owned ! has_arg.the_row (Is has_arg.the_row) (enums.makes has_arg.the_type has_arg_plain 𝓛) kind (kind_val kind ∷ []) (kind_is kind) $
        move ! (7 ∷ 6 ∷ 5 ∷ 4 ∷ 2 ∷ 0 ∷ 1 ∷ 3 ∷ []) $ group ! 8 $ move ! (1 ∷ 0 ∷ []) $ join ! $
        use0 𝓛 (raw (fact 𝓤 Lawful)) (fact_i 𝓤 Lawful (emp 𝓤) lawful) $ move ! (1 ∷ 0 ∷ []) $ use2 𝓛 (raw (G.pre z)) (id⊢ 𝓤 _) $
        enter ! _ _ _ _ _ $ alloc_all ! (λ l. pass_all ! refl (all_Typed 𝓛 Rs (lawfuls 𝓛 κs.0 κs.1.0 κs.1.1.0 κs.1.1.1.0 (Hint κs) ((hint κs).lawful 𝓛, tt)) a vss are) $
        sets ! (addr ! (through ! refl (stop !))) refl (tt, tt) $
        sets ! (agg ! (and_then ! (lit ! (lt→ltb _ _ kind_typed.1.0.fits)) (no_more !))) refl kind_typed $
        sets ! (agg ! (and_then ! (lit ! (lt→ltb _ _ occur_typed.1.0.fits)) (no_more !))) refl occur_typed $
        calls_at ! (framed 𝓤 𝓛.H 𝓜 𝓣) G met z
        (and_then ! (get ! refl) (and_then ! (get ! refl) (and_then ! (get ! refl) (and_then ! (get ! refl) (and_then ! (get ! refl) (and_then ! (get ! refl) (and_then ! (get ! refl) (no_more !)))))))) (λ v.
        use1 𝓛 (later (some (λ (r : ReturnedResult). (raw (alive 𝓛 four.signature κs qs) ⊛ ‵ (Out.own_val r (v ∷ []))) ⊛ some (λ (ws : Lasts g.ended κs z.0.3).
        ‵ (lasts g.ended κs z.0.3 ws) ⊛ raw (says_of a.0 r (Adds a.0.now a.1.0.now a.1.1.0.now a.1.1.1.0.now a.1.1.1.1.0.now r)))))) (id⊢ 𝓤 _) $
        await ! tt $ pick ! (λ r. split ! $ split ! $ move ! (1 ∷ []) $ peeks ! Out (Is Out) (shows 𝓛 Out) r (v ∷ []) (λ is.
        lands_as ! refl refl (returned_typed 𝓛 κs.0 r v is) $ move ! (2 ∷ []) $ pick ! (λ ws. split ! $ drop ! $
        use1 𝓛 (raw (says_of a.0 r (Claim κs a r))) (says_more a.0 r (added κs a r)) $
        -- [the ensures; the result; the tokens]
        returns ! (look_at ! 0 refl) $ free_all ! refl $
        suffices ! _ (ends_at 𝓛 four.ended stayed clauses_4 y v r (tt, (tt, (tt, (tt, (tt, tt))))) (tt, (tt, (tt, (tt, (tt, tt)))))) $ keep ! (2 ∷ 1 ∷ 0 ∷ []) $
        nothing ! $ nothing ! $ nothing ! $ nothing ! $ nothing ! $ nothing ! $ group ! 6 $ move ! (1 ∷ 0 ∷ []) $ group ! 3 $ done !)))))))
