-- One change to `map_then_resolve` makes one fault hold.
use Rattle.std.proofs.Common.{◌≢◌, ℕ, zero, suc, ◌<◌, [], ◌∷◌, refl, ap, ◌∙◌, ◌≤◌, lit<, lit≤, subst, sym, eqb, arith, false}
use Rattle.std.proofs.lemmas.Bool.{false≢true}
use Rattle.std.proofs.lemmas.Option.{none-some}
use Rattle.vs_types.specs.declared.requests.answer.Answer.{Answer}
use Rattle.vs_types.specs.declared.requests.answer.Answer.TheVariants.{Done, NotMapped, Mapped, Allowed, Fault}
use Rattle.vs_types.specs.declared.addresses.page.Size.TheVariants.{K4}
use Rattle.nr_trace.specs.Calls.{Answers, IsCall, IsWellFormedHistory}
use Rattle.nr_trace.specs.Faults.{HasFault}
use Rattle.nr_trace.specs.declared.recordings.event.Asked.TheVariants.{Request}
use Rattle.nr_trace.specs.Recording.{IsThere}
use Rattle.nr_trace.proofs.ExamplesOfSpelling.{len_of_page}
use Rattle.vs_walk.specs.Walk.{all_rights}
use Rattle.nr_trace.specs.Examples.{map_it, resolve_it, access_it, access_refused, looks_mapped, dump_of_page, with_log, with_replies, without_first_reply}
use Rattle.nr_trace.specs.Examples.{with_applied, answered_again}
use Rattle.nr_trace.specs.declared.refusals.fault.Fault.TheVariants.{ThreadOpen, NoSuchCall, AnsweredTwice, NotAnUpdate, PlacedTwice, NotPlaced, PastLog, WrongAnswer}
use Rattle.nr_trace.specs.declared.refusals.fault.Fault.TheVariants.{PrefixPastLog, PrefixShort}
use Rattle.nr_trace.proofs.ExamplesOfAnswers.{resolve_answer, access_answer}
use Rattle.nr_trace.proofs.LawsOfHistories.{no_call_fault}

pub not_an_update : HasFault (with_log (2 ∷ [])) (NotAnUpdate 0)
not_an_update = (2, refl, λ h. cc)

pub placed_twice : HasFault (with_log (0 ∷ 0 ∷ [])) (PlacedTwice 1)
placed_twice = (0, refl, (0, lit< tt, refl))

pub not_placed : HasFault (with_replies 1 2 1 0x1123) (NotPlaced 1)
not_placed = (record { call = 0; at = 1; answer = Done }, refl, (refl, λ e. none-some 0 e))

pub past_log : HasFault (with_replies 0 2 2 0x1123) (PastLog 3)
past_log = (record { call = 2; at = 2; answer = looks_mapped }, refl, (refl, lit< tt))

pub no_such_call : HasFault (with_replies 0 1 1 0x1123) (NoSuchCall 3)
no_such_call = (record { call = 1; at = 1; answer = looks_mapped }, refl, λ h. no_call h.1) where
  no_call : IsCall (with_replies 0 1 1 0x1123) 1 → ⊥
  no_call h = cc

pub answered_twice : HasFault (with_replies 0 0 1 0x1123) (AnsweredTwice 3)
answered_twice = (record { call = 0; at = 1; answer = looks_mapped }, refl, (1, lit< tt, refl))

pub again : HasFault answered_again (AnsweredTwice 4)
again = (record { call = 2; at = 1; answer = NotMapped }, refl, (3, lit< tt, refl))

pub no_history : IsWellFormedHistory answered_again → ⊥
no_history history = (no_call_fault answered_again history 4).2 again

not_answered : (reply : ℕ) → reply < 1 → Answers without_first_reply reply 0 → ⊥
not_answered zero l h = cc
not_answered (suc n) l h = omega arith

pub thread_open : HasFault without_first_reply (ThreadOpen 1)
thread_open = record {
  made = record { replica = 0; thread = 0; asked = Request resolve_it };
  is_made = refl;
  earlier = 0;
  earlier_made = record { replica = 0; thread = 0; asked = Request map_it };
  is_earlier = lit< tt;
  is_earlier_made = refl;
  same_thread = refl;
  not_answered = not_answered;
}

other_address : Mapped 0x1124 K4 all_rights ≢ looks_mapped
other_address e = false≢true (ap (λ answer. eqb (address_of answer) 0x1123) e) where
  address_of : Answer → ℕ
  address_of (Mapped phys size rights) = phys
  address_of _ = 0

pub wrong_answer : HasFault (with_replies 0 2 1 0x1124) (WrongAnswer 2)
wrong_answer = record {
  request = resolve_it;
  asks = refl;
  reply = record { call = 2; at = 1; answer = Mapped 0x1124 K4 all_rights };
  is_reply = refl;
  differs = λ e. other_address (e ∙ resolve_answer);
}

not_allowed : Fault 7 ≢ Allowed 0x1123
not_allowed e = cc

pub refused_wrongly : HasFault access_refused (WrongAnswer 2)
refused_wrongly = record {
  request = access_it;
  asks = refl;
  reply = record { call = 2; at = 1; answer = Fault 7 };
  is_reply = refl;
  differs = λ e. not_allowed (e ∙ access_answer);
}

page_there : IsThere dump_of_page
page_there = subst (λ n. 1 ≤ n) (sym len_of_page) (lit≤ tt)

pub prefix_past_log : HasFault (with_applied 2) (PrefixPastLog 0)
prefix_past_log = (record dump_of_page { applied = 2 }, refl, page_there, lit< tt)

pub prefix_short : HasFault (with_applied 0) (PrefixShort 0)
prefix_short = (
  record dump_of_page { applied = 0 },
  refl,
  page_there,
  record {
    index = 1;
    reply = record { call = 0; at = 0; answer = Done };
    is_reply = refl;
    made = record { replica = 0; thread = 0; asked = Request map_it };
    is_made = refl;
    here = refl;
    more = lit< tt;
  },
)
