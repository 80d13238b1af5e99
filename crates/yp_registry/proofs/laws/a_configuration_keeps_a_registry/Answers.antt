use Rattle.std.proofs.Common.{refl}
use Rattle.yp_filter.specs.Reading.{filter_in}
use Rattle.yp_terms.specs.declared.ask.FilterAsk.TheVariants.{All, Subtree, XPath}
use Rattle.yp_registry.proofs.Establishing.{AskedFiltersFit, read_fits}
use Rattle.yp_registry.proofs.Further.{configured_keeps}
use Rattle.yp_registry.proofs.laws.a_configuration_keeps_a_registry.Goals as goal

pub returns : goal.returns
returns c = configured_keeps fit
  where
    fit : AskedFiltersFit
    fit nodes All = refl
    fit nodes (Subtree json) = read_fits nodes (filter_in nodes json) (c.a_filter_that_is_read_fits.ensures nodes json)
    fit nodes XPath = refl
