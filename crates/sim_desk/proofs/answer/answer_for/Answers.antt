use Rattle.std.proofs.Common.{◌≡◌, [], sym, ap, subst, ◌∙◌, append-nil}
use Rattle.std.specs.Prelude.{IfOk}
use Rattle.sim_outside.specs.Writes.{Writes}
use Rattle.sim_writing.specs.RunFaults.{is_write}
use Rattle.sim_writing.proofs.Wanting.{wanting}
use Rattle.sim_outside.proofs.Written.{told_err, as_well, as_failed}
use Rattle.sim_command.specs.Endings.{status_of_end}
use Rattle.sim_models.proofs.ModelsAreRead.{models_are_read}
use Rattle.sim_desk.proofs.Telling.{native_answer, native_status, shop_answer, shop_status}
use Rattle.sim_desk.proofs.answer.answer_for.Goals as goal

pub returns-in_err-shop-in-Load-clause-writes : goal.returns-in_err-shop-in-Load-clause-writes
returns-in_err-shop-in-Load-clause-writes g c = wanting _ c.from_residual.result _ c.from_residual.ensures.1

pub returns-in_ok-shop-in-Load-clause-status : goal.returns-in_ok-shop-in-Load-clause-status
returns-in_ok-shop-in-Load-clause-status g c =
    let same = c.as_slice.ensures.value ∙ c.in_ok-shop-in-Load.ensures.text in
    subst (λ told. IfOk c.answer_on.result (λ status. status ≡ told)) (shop_status c.args.asked c.in-Load.size _ c.args.text.now c.in-Load.is same) c.answer_on.ensures.status

pub returns-in_ok-shop-in-Load-clause-writes : goal.returns-in_ok-shop-in-Load-clause-writes
returns-in_ok-shop-in-Load-clause-writes g c =
    let same = c.as_slice.ensures.value ∙ c.in_ok-shop-in-Load.ensures.text in
    subst (λ bytes. Writes is_write (g.K.Sink.tells c.args.out.now) (g.K.Sink.tells c.answer_on.new.out) c.answer_on.result bytes)
    (shop_answer c.args.asked c.in-Load.size _ c.args.text.now c.in-Load.is same) c.answer_on.ensures.writes

pub returns-in_err-end-in-Native-clause-writes : goal.returns-in_err-end-in-Native-clause-writes
returns-in_err-end-in-Native-clause-writes g c =
    let m = c.in-Native.model in
    let text = sym (native_answer c.args.asked m c.in-Native.limit c.args.text.now c.in-Native.is (models_are_read m)) in
    told_err is_write _ _ _ c.from_residual-in_err-end-in-Native.result _ c.from_residual-in_err-end-in-Native.ensures.1
    (λ why is. as_failed is_write is_write _ _ _ why _ [] _ c.in_err-end-in-Native.ensures.writes (text ∙ sym (append-nil _)) (sym (ap is_write is)))

pub returns-in_ok-end-in-Native-clause-status : goal.returns-in_ok-end-in-Native-clause-status
returns-in_ok-end-in-Native-clause-status g c =
    let m = c.in-Native.model in
    c.status_of_end.ensures ∙ (ap status_of_end c.in_ok-end-in-Native.ensures.end
    ∙ native_status c.args.asked m c.in-Native.limit c.args.text.now c.in-Native.is (models_are_read m))

pub returns-in_ok-end-in-Native-clause-writes : goal.returns-in_ok-end-in-Native-clause-writes
returns-in_ok-end-in-Native-clause-writes g c =
    let m = c.in-Native.model in
    as_well is_write is_write _ _ _ c.status_of_end.result _ _ c.in_ok-end-in-Native.ensures.writes
    (native_answer c.args.asked m c.in-Native.limit c.args.text.now c.in-Native.is (models_are_read m))
