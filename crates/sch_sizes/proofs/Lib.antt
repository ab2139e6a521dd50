pub mod AmountLemmas
pub mod ExtendsLemmas
pub mod FaultLemmas
pub mod FlatLemmas
pub mod SchemaLemmas
pub mod TextLemmas
