use Rattle.settling.proofs.EnoughBits.{analysis_needs_no_more}
use Rattle.settling.proofs.laws.certificates_of_analyses_need_no_more_bits.Goals as goal

pub returns : goal.returns
returns c f allowance bounds duals ends = analysis_needs_no_more f allowance bounds duals (record {
  fits = c.the_end_is_read_in_one_way.ensures.fits;
  keeps = c.the_end_is_read_in_one_way.ensures.keeps;
  greatest = c.what_is_found_is_best.ensures.greatest;
}) ends
