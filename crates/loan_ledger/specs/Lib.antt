pub mod Knot
pub mod Audit
pub mod AuditText
