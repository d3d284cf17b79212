use Rattle.std.proofs.Common.{sym, arith}
use Rattle.ccr_check.proofs.Streams.{digit_low, digit_high, number_starts, number_goes_on}
use Rattle.ccr_check.proofs.node_line.number_at.Goals as goal

pub loop-digit-init : goal.loop-digit-init
loop-digit-init c =
    let low = digit_low c.in-Some.first (sym c.if-not-is_ascii_digit.ensures.value) in
    let high = digit_high c.in-Some.first (sym c.if-not-is_ascii_digit.ensures.value) in
    record {
      read = number_starts c.args.text.now c.in-Some.rest.now c.in-Some.first c.from-value.result c.in-Some.ensures (omega (arith, c.from-value.ensures)) low high;
      small = omega (arith, c.from-value.ensures, high);
    }

pub loop-digit-preserved : goal.loop-digit-preserved
loop-digit-preserved c =
    let low = digit_low c.in-Some-first_byte.digit (sym c.if-not-is_ascii_digit-2.ensures.value) in
    let high = digit_high c.in-Some-first_byte.digit (sym c.if-not-is_ascii_digit-2.ensures.value) in
    record {
      read = number_goes_on c.args.text.now c.loop-digit.rest.now c.in-Some-first_byte.others.now c.loop-digit.value c.in-Some-first_byte.digit _ c.loop-digit.invariant.read c.in-Some-first_byte.ensures
          (omega (arith, c.from.ensures, c.from-in-Some-first_byte.ensures)) (omega (arith, c.if-value-eq0.false)) low high (omega (arith, c.if-next-ge4294967296.false));
      small = omega (arith, c.if-next-ge4294967296.false);
    }
