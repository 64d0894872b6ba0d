-- From the checks on the nets of a case to the checks of a call on a file that reads as it. Assumes nothing.
use Prim.Native.Nat.{ℕ}
use mathlib.Core.Path.{refl, subst}
use mathlib.Core.List.{List, ◌++◌}
use Rattle.rack.specs.Layout.{ReadsAs}
use Rattle.rack.specs.Refusal.{Own, Check, work-room, layout, cycle, pattern-count, pattern-cap, two-join, final-left, product-count, system-cap, own}
use Rattle.rack.specs.Refusal.{NetsPass, Question, OfCase, Speaks, Silent, FirstToSpeak, speaks, rests, AllSilent, none, also, verdict_order, Accepts}
use Rattle.rack.specs.NetChecks.{NetSpeaks, NetRests, NetRefuses, NetAccepts, pattern_order, product_order}
use Rattle.rack.specs.declared.Case.{Case}
use Rattle.rack.proofs.OneReading.{one_case}

module _ (q : Question) (Says : Own → ℕ → Type 0) (Rests : Own → Type 0) (c : Case) (reads : ReadsAs q.file c) where
  of : (P : Case → Type 0) → P c → OfCase q.file P
  of P p = record { case = c; reads = reads; is = p }

  lift_speaks : (k : Check) → NetSpeaks c k → Speaks q Says k 0
  lift_speaks work-room x = absurd x
  lift_speaks layout x = absurd x
  lift_speaks cycle x = (of _ x, refl)
  lift_speaks pattern-count x = (of _ x, refl)
  lift_speaks pattern-cap x = (of _ x, refl)
  lift_speaks two-join x = (of _ x, refl)
  lift_speaks final-left x = (of _ x, refl)
  lift_speaks product-count x = (of _ x, refl)
  lift_speaks system-cap x = (of _ x, refl)
  lift_speaks (own k) x = absurd x

  lift_rests : (k : Check) → NetRests c k → Silent q Rests k
  lift_rests work-room x = absurd x
  lift_rests layout x = absurd x
  lift_rests cycle x = of _ x
  lift_rests pattern-count x = of _ x
  lift_rests pattern-cap x = of _ x
  lift_rests two-join x = of _ x
  lift_rests final-left x = of _ x
  lift_rests product-count x = of _ x
  lift_rests system-cap x = of _ x
  lift_rests (own k) x = absurd x

  -- the file reads, so 2 rests
  pub layout_rests : Silent q Rests layout
  layout_rests = of _ tt

  -- a check on the nets speaks first
  pub lift_refuses : {ks : List Check} {n : ℕ} (more : List Check) → NetRefuses c ks n → FirstToSpeak (Speaks q Says) (Silent q Rests) (ks ++ more) n 0
  lift_refuses more (speaks {k} x) = speaks (lift_speaks k x.0)
  lift_refuses more (rests {k} x u) = rests (lift_rests k x) (lift_refuses more u)

  -- none of them speaks, and then another check does
  pub lift_on : {ks more : List Check} {n m : ℕ} → NetAccepts c ks → FirstToSpeak (Speaks q Says) (Silent q Rests) more n m → FirstToSpeak (Speaks q Says) (Silent q Rests) (ks ++ more) n m
  lift_on none v = v
  lift_on (also {k} x u) v = rests (lift_rests k x) (lift_on u v)

  -- none of them speaks, and none after them
  pub lift_accepts : {ks more : List Check} → NetAccepts c ks → AllSilent (Silent q Rests) more → AllSilent (Silent q Rests) (ks ++ more)
  lift_accepts none v = v
  lift_accepts (also {k} x u) v = also (lift_rests k x) (lift_accepts u v)

-- ---- the checks 3 to 9 as one record

pub passes_accept : {c : Case} → NetsPass c → NetAccepts c (pattern_order ++ product_order)
passes_accept p =
    also p.acyclic
    (also p.few_patterns (also p.pattern_capped (also p.one_joins (also p.final_stays (also p.few_products (also p.system_capped none))))))

pub accept_passes : {c : Case} → NetAccepts c pattern_order → NetAccepts c product_order → NetsPass c
accept_passes (also a (also b (also d (also e (also f u))))) (also g (also h v)) =
    record { acyclic = a; few_patterns = b; pattern_capped = d; one_joins = e; final_stays = f; few_products = g; system_capped = h }

-- a call that accepts a file has found nothing wrong with the nets of its case
same_case : {f : List ℕ} {c : Case} {P : Case → Type 0} → ReadsAs f c → OfCase f P → P c
same_case {f} {c} {P} r x = subst P (one_case x.reads r) x.is

pub verdict_passes : {q : Question} {Rests : Own → Type 0} {c : Case} → ReadsAs q.file c → Accepts q Rests verdict_order → NetsPass c
verdict_passes r (also w (also l (also a (also b (also d (also e (also f (also g (also h v))))))))) =
    record {
      acyclic = same_case r a;
      few_patterns = same_case r b;
      pattern_capped = same_case r d;
      one_joins = same_case r e;
      final_stays = same_case r f;
      few_products = same_case r g;
      system_capped = same_case r h;
    }
