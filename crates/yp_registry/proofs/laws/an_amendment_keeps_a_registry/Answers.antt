use Rattle.std.proofs.Common.{refl}
use Rattle.yp_filter.specs.Reading.{filter_in}
use Rattle.yp_terms.specs.declared.ask.FilterAsk.TheVariants.{All, Subtree, XPath}
use Rattle.yp_registry.proofs.Establishing.{AskedFiltersFit, read_fits}
use Rattle.yp_registry.proofs.Further.{modified_keeps, reconfigured_keeps}
use Rattle.yp_registry.proofs.laws.an_amendment_keeps_a_registry.Goals as goal

pub returns-clause-modified : goal.returns-clause-modified
returns-clause-modified c = modified_keeps fit
  where
    fit : AskedFiltersFit
    fit nodes All = refl
    fit nodes (Subtree json) = read_fits nodes (filter_in nodes json) (c.a_filter_that_is_read_fits.ensures nodes json)
    fit nodes XPath = refl

pub returns-clause-reconfigured : goal.returns-clause-reconfigured
returns-clause-reconfigured c = reconfigured_keeps fit
  where
    fit : AskedFiltersFit
    fit nodes All = refl
    fit nodes (Subtree json) = read_fits nodes (filter_in nodes json) (c.a_filter_that_is_read_fits.ensures nodes json)
    fit nodes XPath = refl
