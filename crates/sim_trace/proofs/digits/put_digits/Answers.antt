use Rattle.std.proofs.Common.{◌<◌, ◌≤◌, ◌≡◌, ◌+◌, ◌/◌, length, arith}
use Rattle.std.proofs.lemmas.List.{length-set}
use Rattle.itoa.proofs.Decimal.{length_pair}
use Rattle.sim_trace.proofs.DigitCounts.{few_behind}
use Rattle.sim_trace.proofs.PairsBehind.{number_put}
use Rattle.sim_trace.proofs.digits.put_digits.Goals as goal

pub bounds-line-end : goal.bounds-line-end
bounds-line-end c =
    let end = rw c.lead-rest.ensures.leads at c.put-end.ensures.end in
    omega (arith, end, c.put-end.ensures.length, few_behind c.args.number c.if-number-lt100.false c.ranges.number.fits, c.requires)

pub bounds-line-end-2 : goal.bounds-line-end-2
bounds-line-end-2 c =
    let end = rw c.lead-rest.ensures.leads at c.put-end.ensures.end in
    omega (
      arith,
      length-set c.put-end.new.line c.put-end.result (48 + c.lead-rest.result / 10),
      end,
      c.put-end.ensures.length,
      few_behind c.args.number c.if-number-lt100.false c.ranges.number.fits,
      c.requires,
    )

pub returns-clause-digits : goal.returns-clause-digits
returns-clause-digits c =
    let end = rw c.lead-rest.ensures.leads at c.put-end.ensures.end in
    let leads = rw c.lead-rest.ensures.leads at c.put-end.ensures.digits in
    let number = c.args.number in
    let room : c.put-end.result + 1 < length c.put-end.new.line =
    omega (arith, end, c.put-end.ensures.length, few_behind number c.if-number-lt100.false c.ranges.number.fits, c.requires) in
    rw c.lead-rest.ensures.rest
    (number_put c.put-end.new.line c.args.line.now c.args.at c.put-end.result number c.if-number-lt100.false c.ranges.number.fits room leads)

pub returns-clause-end : goal.returns-clause-end
returns-clause-end c =
    let end = rw c.lead-rest.ensures.leads at c.put-end.ensures.end in
    omega (arith, end, length_pair c.args.number c.if-number-lt100.false c.ranges.number.fits)

pub returns-clause-few : goal.returns-clause-few
returns-clause-few c =
    let end = rw c.lead-rest.ensures.leads at c.put-end.ensures.end in
    omega (arith, end, few_behind c.args.number c.if-number-lt100.false c.ranges.number.fits)
