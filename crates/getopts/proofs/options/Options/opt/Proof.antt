-- `opt` lends its options to `add_group`, gets them back, and returns them, or gives them up.
use Rattle.getopts.proofs.AddingCalls.{◌≡◌, ℕ, List, [], ◌∷◌, refl, lit<, MutBor, inl, inr, proved, full_share, id⊢, SProp, emp, Fml, ftrue, flft, fres, fsep, Lfts, fact, fact_i, tables, yes, no, Is, valss, all_Typed, shows, Spells, RattleType, owns, MutRef, mut_vals, makes_shadow, plain, types_at, AllWithin, nothing, heard, peeks, StrRefOf, calls_at, lasts, Lasts, triple_of, framed, AllGo, Stays, walk_of, stay_dropped, Goes-dropped, Goes-spent_ref, ends_at, subst, Body, named, Val, vptr, vstruct, vcons, vnil, Ura, alloc_all, pass_all, free_all, look_at, get, through, sets, lands_as, env, get_tag, get_in, sets_last, ‵, raw, ◌⊛◌, some, later, at_ret, ◌$◌, ◌∵◌, !, qed, done, move, keep, drop, use0, use1, use2, use3, split, join, group, fsplit, fsplit3, pick, await, rewrite, suffices, any_q, Logic, live, vrt, in_variant, agg, whole, enter, of_opd, lit, addr, stop, fld, no_more, and_then, first, exec, returns, switches_on, Ok, Err, OnOk, OnErr, AllocError, UnchangedIfErr, AreLawful, Declared, Options, has_arg_laws, has_arg_row, occur_laws, occur_row, Returned, Added, AddedResult, added_values, unchanged_ok, unchanged_err, text_laws, Str, spells, tells, lawfuls}
use Rattle.getopts.proofs.AddingCalls.enums
use Rattle.getopts.proofs.AddingCalls.AE
use Rattle.getopts.proofs.AddingCalls.has_arg
use Rattle.getopts.proofs.AddingCalls.occurs
use prog.Wp.{Wp, after_seq, at_return}
use types.Tokens.{lft_new, lft_end}
use denote.Lend.{lends_again, comes_back, LentAgain}
use Rattle.std.proofs.ResultValues.{ok_of, err_of}
use Rattle.std.proofs.VecSteps.Shapes.{after, head, arm_body}
use Rattle.getopts.specs.Options.{group_of, with_group}
use Rattle.getopts.specs.contracts.options.Options.opt as f
use Rattle.getopts.proofs.options.Options.opt.Statement.{statement}
use Rattle.getopts.proofs.options.Options.opt.Code as code
use Rattle.getopts.specs.contracts.options.Options.add_group as g
use Rattle.getopts.proofs.options.Options.add_group.Met.{met}

abbrev stayed : Stays f.ended.signature.params f.ended.kept
stayed = (stay_dropped _ no, (stay_dropped _ yes, (stay_dropped _ yes, (stay_dropped _ yes, (stay_dropped _ yes, (stay_dropped _ yes, (stay_dropped _ yes, tt)))))))

abbrev goes : {M : Type 1} {𝓤 : Ura M} (𝓛 : Logic 𝓤) → AllGo 𝓛 5 f.signature.params f.ended.kept stayed
goes 𝓛 =
    let text = λ (i : ℕ) (w : AllWithin 5 (i ∷ [])). Goes-dropped 𝓛 5 (StrRefOf (i ∷ []) w) yes (λ κs x w. refl) in
    let kind = Goes-dropped 𝓛 5 (plain (λ _. has_arg.the_row)) yes (λ κs x w. refl) in let occur = Goes-dropped 𝓛 5 (plain (λ _. occurs.the_row)) yes (λ κs x w. refl) in
    (Goes-spent_ref 𝓛 5 (0 ∷ []) tt (plain (λ _. Options)), (text 1 tt, (text 2 tt, (text 3 tt, (text 4 tt, (kind, (occur, tt)))))))

abbrev Others : Lfts 5 → List RattleType
Others κs = Str (named 4) κs.1.1.1.1.0 ∷ has_arg.the_row ∷ occurs.the_row ∷ []

abbrev others : (κs : Lfts 5) → Spells (Others κs)
others κs = ((λ s. (text_laws 4 κs.1.1.1.1.0).val s ∷ []), ((λ k. enums.val has_arg.the_type has_arg_laws k ∷ []), ((λ k. enums.val occurs.the_type occur_laws k ∷ []), tt)))

abbrev values : (κs : Lfts 5) → Spells (types_at f.signature.params κs)
values κs = spells κs.0 κs.1.0 κs.1.1.0 κs.1.1.1.0 (Others κs) (others κs)

pub opt_spec : {M : Type 1} → statement M
opt_spec 𝓤 𝓛 𝓜 𝓡 wired =
    let c = f.clauses 𝓛 𝓜.mem 𝓡.returns in let 𝓣 = tables 𝓤 𝓛.H 𝓜 𝓡 𝓡.env in let G = triple_of 𝓛 g.signature (g.spec 𝓛 𝓜.mem 𝓡.returns) in
    proved 𝓛 f.ended stayed c 𝓜 𝓡 (goes 𝓛) f.Key.name code.function (code.unfolded 𝓤 𝓛.H 𝓜 𝓡 wired) values
    (λ κs. tells κs.0 κs.1.0 κs.1.1.0 κs.1.1.1.0 (Others κs) (others κs) ((text_laws 4 κs.1.1.1.1.0).tells, (enums.tells has_arg.the_type has_arg_laws, (enums.tells occurs.the_type occur_laws, tt)))) (λ κs qs bounds a n are.
    let κ = κs.0 in let q = qs.0 in let r = a.0 in let b = r.ref_ptr.0 in let o = r.ref_ptr.1 in let vs = mut_vals r in
    let Ref = MutRef (named 0) κ Options in let Out : RattleType = Returned κ in let fn = code.function in
    let Rs : List RattleType = types_at f.signature.params κs in let vss = valss Rs (values κs) a in
    let toks : Fml = fsep (flft κs.1.0 qs.1.0) (fsep (flft κs.1.1.0 qs.1.1.0) (fsep (flft κs.1.1.1.0 qs.1.1.1.0) (fsep (flft κs.1.1.1.1.0 qs.1.1.1.1.0) ftrue))) in
    let y : (walk_of 𝓛 f.ended stayed c).Ghost = ((κs, qs, bounds, a, vss), tt) in let Post : Val → SProp 𝓤 = (walk_of 𝓛 f.ended stayed c).post y in
    let Lawful : Type 0 = AreLawful a.1.0.now a.1.1.0.now in
    let plus : Declared = with_group r.now (group_of a.1.0.now a.1.1.0.now a.1.1.1.0.now a.1.1.1.1.0.now a.1.1.1.1.1.0 a.1.1.1.1.1.1.0) in
    let Is_at = λ (κ' : List ℕ) (y : MutBor Declared). (MutRef (named 0) κ' Options).own_val y vs in
    qed 𝓛 (((‵ (flft κ q) ⊛ ‵ toks) ⊛ ‵ (owns Rs a vss)) ∷ raw (fact 𝓤 Lawful) ∷ []) ∵
    split ! $ split ! $ move ! (3 ∷ []) $ heard ! _ (λ lawful. move ! (2 ∷ []) $ fsplit ! $ move ! (0 ∷ 2 ∷ []) $
    -- [the options; their token; the other parameters; the other tokens]
    enter ! _ _ _ _ _ $ alloc_all ! (λ l. pass_all ! refl (all_Typed 𝓛 Rs (lawfuls 𝓛 κs.0 κs.1.0 κs.1.1.0 κs.1.1.1.0 (Others κs) ((text_laws 4 κs.1.1.1.1.0).lawful 𝓛, (has_arg_row.lawful 𝓛, (occur_row.lawful 𝓛, tt)))) a vss are) $
    sets ! (addr ! (through ! refl (stop !))) refl (tt, tt) $ lft_new ! tt (λ α. move ! (1 ∷ 2 ∷ []) $
    use2 𝓛 (later (some (λ (δ : ℕ). ‵ (Is_at (α ∷ []) (record r { ghost_name = δ })) ⊛ ‵ (LentAgain Options κ (α ∷ []) q r.ghost_name b o δ r.now))))
    (lends_again 𝓛 Options (named 0) κ (α ∷ []) q r.ghost_name b o (named 0) r.now) $ await ! tt $ pick ! (λ δ. split ! $
    -- [the loan; what the lender keeps; the token of α; the other parameters; the other tokens]
    let z : G.Ghost = (((α ∷ [], κs.1), (full_share, qs.1), bounds, (record r { ghost_name = δ }, a.1), vss), tt) in
    move ! (0 ∷ 3 ∷ []) $ join ! $ move ! (2 ∷ 3 ∷ []) $ join ! $ move ! (0 ∷ 1 ∷ []) $ join ! $
    use0 𝓛 (raw (fact 𝓤 Lawful)) (fact_i 𝓤 Lawful (emp 𝓤) lawful) $ move ! (1 ∷ 0 ∷ []) $ use2 𝓛 (raw (G.pre z)) (id⊢ 𝓤 _) $
    calls_at ! (framed 𝓤 𝓛.H 𝓜 𝓣) G (met 𝓤 𝓛 𝓜 𝓡 (code.calls-getopts::options::Options::add_group 𝓡.env wired)) z
    (and_then ! (get ! refl) (and_then ! (get ! refl) (and_then ! (get ! refl) (and_then ! (get ! refl) (and_then ! (get ! refl) (and_then ! (get ! refl) (and_then ! (get ! refl) (no_more !)))))))) (λ v.
    use1 𝓛 (later (some (λ (u : AddedResult). ((‵ (flft (α ∷ []) full_share) ⊛ ‵ toks) ⊛ ‵ (Added.own_val u (v ∷ []))) ⊛ some (λ (ws : Lasts g.ended z.0.0 z.0.3).
    ‵ (lasts g.ended z.0.0 z.0.3 ws) ⊛ raw (fact 𝓤 (OnOk u (ws.0 ≡ plus))) ⊛ raw (fact 𝓤 (OnErr u (ws.0 ≡ r.now))))))) (id⊢ 𝓤 _) $
    await ! tt $ pick ! (λ u. split ! $ split ! $ split ! $ lft_end ! tt $ move ! (2 ∷ []) $
    peeks ! Added (Is Added) (shows 𝓛 Added) u (v ∷ []) (λ is. drop ! $ move ! (2 ∷ []) $ pick ! (λ ws. split ! $ move ! (1 ∷ []) $ split ! $
    heard ! _ (λ added. heard ! _ (λ unchanged. fsplit ! $ fsplit ! $
    -- [the last value; its borrow; the others; α is over; the other tokens; the lender's]
    move ! (3 ∷ 5 ∷ 0 ∷ []) $ use3 𝓛 (later (‵ (Is_at κ (record r { now = ws.0 })) ⊛ ‵ (flft κ q)))
    (comes_back 𝓛 Options (named 0) κ (α ∷ []) q r.ghost_name b o δ r.now ws.0) $ await ! tt $ split ! $
    -- [the options; their token; its borrow; the other parameters; the other tokens]
    let En = env code.Mir.locals l in let both : Body = head (after 2 fn.body) in
    let Then = any_q (after_seq 𝓤 𝓛.H (Wp 𝓤 𝓛.H 𝓣.C 𝓣.Λ En (after 3 fn.body) (at_return 𝓤 𝓛.H En Post)) (at_return 𝓤 𝓛.H En Post)) in
    elim (added_values u v is) [
      | inl ok ↦
          let val : Val = live 0 (vcons (vptr b o) vnil) in let r' : MutBor Declared = record r { now = ws.0 } in
          let IsPlus : Type 0 = ws.0 ≡ plus in let Same : Type 0 = r.ghost_name ≡ r.ghost_name in
          lands_as ! ok.0 refl (tt, (record { fits = lit< tt }, (tt, tt))) $ first ! $
          switches_on ! (get_tag ! (vrt ! refl (fld ! refl (stop !))) (whole !)) $ exec ! 𝓣.C 𝓣.Λ En (arm_body 0 both) Then $
          sets ! (addr ! (through ! refl (stop !))) refl (tt, tt) $
          sets_last ! (agg ! (and_then ! (lit ! tt) (and_then ! (get ! refl) (no_more !)))) refl (tt, (record { fits = lit< tt }, (tt, tt))) $
          exec ! 𝓣.C 𝓣.Λ En (after 3 fn.body) (at_ret En Post) $ sets ! (of_opd ! (get ! refl)) refl (tt, (record { fits = lit< tt }, (tt, tt))) $
          use1 𝓛 (‵ (Out.own_val (Ok r') (val ∷ []))) (ok_of 𝓛 Ref AE.the_row r' (vptr b o)) $
          returns ! (look_at ! 0 refl) $ free_all ! refl $ keep ! (0 ∷ 1 ∷ 4 ∷ []) $
          suffices ! _ (ends_at 𝓛 f.ended stayed c y val (Ok r') (tt, (tt, (tt, (tt, (tt, (tt, (tt, tt))))))) (tt, (tt, (tt, (tt, (tt, (tt, (tt, tt)))))))) $
          use0 𝓛 (raw (fact 𝓤 Same)) (fact_i 𝓤 Same (emp 𝓤) refl) $
          use0 𝓛 (raw (fact 𝓤 IsPlus)) (fact_i 𝓤 IsPlus (emp 𝓤) (subst (λ (w : AddedResult). OnOk w IsPlus) ok.1 added)) $
          use0 𝓛 (‵ (UnchangedIfErr {E = AllocError} r (Ok r'))) (unchanged_ok 𝓛 r ws.0) $ group ! 3 $
          -- [the ensures; the result; the token; the other tokens]
          nothing ! $ nothing ! $ nothing ! $ nothing ! $ nothing ! $ nothing ! $ nothing ! $ nothing ! $ group ! 8 $
          move ! (3 ∷ 4 ∷ 0 ∷ 2 ∷ 1 ∷ []) $ join ! $ group ! 3 $ done !
      | inr err ↦
          let val : Val = live 1 (vcons (vstruct vnil) vnil) in let Error : Fml = AE.the_row.own_val (record {}) (vstruct vnil ∷ []) in
          lands_as ! err.0 refl (tt, (record { fits = lit< tt }, (tt, tt))) $ first ! $
          switches_on ! (get_tag ! (vrt ! refl (fld ! refl (stop !))) (whole !)) $ exec ! 𝓣.C 𝓣.Λ En (arm_body 1 both) Then $
          sets ! (of_opd ! (get_in ! (vrt ! refl (fld ! refl (stop !))) (in_variant ! 1 0 refl refl (whole !)))) refl (tt, tt) $
          sets_last ! (agg ! (and_then ! (lit ! tt) (and_then ! (get ! refl) (no_more !)))) refl (tt, (record { fits = lit< tt }, (tt, tt))) $
          exec ! 𝓣.C 𝓣.Λ En (after 3 fn.body) (at_ret En Post) $ sets ! (of_opd ! (get ! refl)) refl (tt, (record { fits = lit< tt }, (tt, tt))) $
          fsplit3 ! $ move ! (1 ∷ []) $ use1 𝓛 (‵ (fres r.ghost_name (Options.coded.code ws.0))) (𝓛.names.obs-res r.ghost_name (Options.coded.code ws.0)) $
          rewrite ! 0 (λ (d : Declared). ‵ (fres r.ghost_name (Options.coded.code d))) (subst (λ (w : AddedResult). OnErr w (ws.0 ≡ r.now)) err.1 unchanged) refl $
          use1 𝓛 (‵ (UnchangedIfErr {E = AllocError} r (Err (record {})))) (unchanged_err 𝓛 r (record {})) $
          use0 𝓛 (raw (fact 𝓤 (Unit {0}))) (fact_i 𝓤 (Unit {0}) (emp 𝓤) tt) $ use0 𝓛 (raw (fact 𝓤 (Unit {0}))) (fact_i 𝓤 (Unit {0}) (emp 𝓤) tt) $
          move ! (2 ∷ []) $ group ! 3 $
          use0 𝓛 (‵ Error) (makes_shadow 𝓛 Error (λ uss. (tt, tt)) (tt, (refl, tt))) $
          use1 𝓛 (‵ (Out.own_val (Err (record {})) (val ∷ []))) (err_of 𝓛 Ref AE.the_row (record {}) (vstruct vnil)) $
          -- [the result; the ensures; the options' address; their borrow; their token; ..]
          returns ! (look_at ! 0 refl) $ free_all ! refl $ keep ! (0 ∷ 1 ∷ 4 ∷ 7 ∷ []) $
          suffices ! _ (ends_at 𝓛 f.ended stayed c y val (Err (record {})) (tt, (tt, (tt, (tt, (tt, (tt, (tt, tt))))))) (tt, (tt, (tt, (tt, (tt, (tt, (tt, tt)))))))) $
          nothing ! $ nothing ! $ nothing ! $ nothing ! $ nothing ! $ nothing ! $ nothing ! $ nothing ! $ group ! 8 $
          move ! (3 ∷ 4 ∷ 0 ∷ 1 ∷ 2 ∷ []) $ join ! $ group ! 3 $ done !
    ])))))))))))
